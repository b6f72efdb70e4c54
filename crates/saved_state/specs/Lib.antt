pub mod Numbers
pub mod Checksum
pub mod States
pub mod Reading
pub mod Writing
