pub mod Headers
pub mod Frames
pub mod Stream
pub mod Pieces
pub mod Items
pub mod Bodies
pub mod Devices
pub mod MemoryDevices
