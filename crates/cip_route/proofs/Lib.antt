pub mod Hops
pub mod HopsTaken
pub mod Routes
pub mod Sends
