pub mod formers
pub mod Covering
pub mod Faults
pub mod Names
pub mod Order
