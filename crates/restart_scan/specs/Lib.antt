pub mod Faults
pub mod Looks
pub mod Opened
pub mod Rows
pub mod Scans
pub mod Sorting
pub mod Stores
