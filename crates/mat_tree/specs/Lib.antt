pub mod Messages
pub mod Nodes
pub mod Parts
pub mod Sums
pub mod Trees
