-- The modules of these definitions.
pub mod PeerStates
pub mod Transfers
pub mod Rounds
pub mod ShownConnections
pub mod Evictions
pub mod Resets
pub mod Held
pub mod FrameEnds
pub mod FrameWires
pub mod Admissions
pub mod Runs
pub mod Watching
pub mod Wires
