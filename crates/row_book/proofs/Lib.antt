pub mod ChangeLemmas
pub mod FindLemmas
pub mod HeldLemmas
pub mod PutLemmas
pub mod RowLemmas
pub mod TakeLemmas
