pub mod Edits
pub mod Entries
pub mod Nodes
pub mod Roots
pub mod Walks
