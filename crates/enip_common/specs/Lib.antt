pub mod OwnerNeeds
pub mod Statuses
