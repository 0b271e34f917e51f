pub mod TakeLemmas
