pub mod Clear
pub mod Cuts
pub mod Laws
pub mod Reading
pub mod Texts
