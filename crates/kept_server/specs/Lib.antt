-- The modules of these definitions.
pub mod Changes
pub mod Savings
pub mod Rounds
