pub mod Commander
pub mod CommanderRule
pub mod Outcome
pub mod Slots
pub mod Withdrawing
