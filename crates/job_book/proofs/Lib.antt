pub mod EntryLemmas
pub mod LoanLemmas
pub mod NumberLemmas
pub mod ReadLemmas
