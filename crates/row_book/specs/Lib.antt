pub mod Stocks
pub mod Whole
