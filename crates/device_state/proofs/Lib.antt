pub mod EntryLists
pub mod KeyLemmas
pub mod Puts
pub mod WithdrawnSlots
pub mod LedgerPuts
pub mod StateLemmas
pub mod QueueBack
