pub mod Ascending
pub mod Admitting
pub mod Rules
