pub mod OutcomeLemmas
pub mod ReplayLemmas
pub mod LadderLemmas
pub mod RunLemmas
pub mod PlayLemmas
