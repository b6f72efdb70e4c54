pub mod Keys
pub mod Saved
pub mod Restored
pub mod QueueEntries
pub mod Laws
