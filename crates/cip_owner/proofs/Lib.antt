pub mod ListLemmas
pub mod QueueLemmas
pub mod TicketLemmas
pub mod RunLemmas
pub mod OwnedLemmas
pub mod ResetLemmas
pub mod OwnerLemmas
