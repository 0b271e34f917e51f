pub mod Told
pub mod Events
pub mod Takes
pub mod Gives
pub mod Removals
pub mod Stores
