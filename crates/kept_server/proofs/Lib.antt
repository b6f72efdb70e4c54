pub mod ChangeLemmas
pub mod AdmissionLemmas
pub mod RoundLemmas
