pub mod Fetches
pub mod Gates
pub mod Keys
pub mod Memory
