pub mod Script
pub mod Outcome
pub mod Replay
pub mod Ladder
pub mod Drawing
