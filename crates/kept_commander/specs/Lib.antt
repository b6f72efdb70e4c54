pub mod Kept
pub mod Calls
pub mod Lives
pub mod Memory
