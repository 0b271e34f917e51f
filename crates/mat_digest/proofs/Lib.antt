pub mod Hashes
pub mod Laws
pub mod Sizes
pub mod Texts
