pub mod Gates
pub mod Lists
