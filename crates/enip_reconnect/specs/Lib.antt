pub mod Events
pub mod Laws
pub mod Retry
pub mod World
pub mod Worlds
pub mod NumberedWorld
pub mod CommanderLaws
pub mod Crashes
