pub mod DigitLemmas
pub mod DecimalLemmas
pub mod InputLemmas
pub mod JsonLemmas
