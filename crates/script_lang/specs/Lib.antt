pub mod Spelled
pub mod Verbs
pub mod Items
pub mod Bounds
pub mod Lines
pub mod Texts
pub mod Written
