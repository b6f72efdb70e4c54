pub mod Counts
pub mod Repeats
