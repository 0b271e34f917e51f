pub mod Asked
pub mod Below
pub mod ByPath
pub mod Done
pub mod Found
pub mod Index
