pub mod Plans
pub mod Carried
