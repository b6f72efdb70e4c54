pub mod LineLemmas
pub mod AnswerLemmas
