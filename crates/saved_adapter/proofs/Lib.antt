pub mod EntryLemmas
pub mod SameLemmas
pub mod MarkLemmas
pub mod ReadLemmas
pub mod DoubtLemmas
