pub mod NumberLemmas
pub mod ClearLemmas
pub mod BackLemmas
pub mod BoundsLemmas
pub mod SpelledIs
pub mod ItemsIs
pub mod Starts
