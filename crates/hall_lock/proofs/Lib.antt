pub mod ListLemmas
pub mod OrderKept
pub mod TurnLemmas
pub mod CloseLemmas
