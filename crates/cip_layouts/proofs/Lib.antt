pub mod ParseLemmas
pub mod ReadLemmas
pub mod WriteLemmas
pub mod OneReading
