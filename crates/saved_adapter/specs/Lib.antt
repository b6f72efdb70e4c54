pub mod Entries
pub mod Starting
pub mod Laws
