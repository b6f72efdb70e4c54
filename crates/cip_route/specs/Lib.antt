pub mod Failure
pub mod Hop
pub mod HopReading
pub mod Route
pub mod Send
