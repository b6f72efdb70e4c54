pub mod Configured
pub mod Preparing
pub mod Starting
