-- The modules of these definitions.
pub mod Keys
pub mod Saved
pub mod Started
pub mod SameKeys
pub mod Names
pub mod Origins
pub mod Preparing
pub mod Hindrances
pub mod Restarts
pub mod RestartLaws
