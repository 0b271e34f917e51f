pub mod Histories
pub mod Passes
pub mod Turns
pub mod Order
pub mod Told
