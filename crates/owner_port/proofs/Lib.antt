pub mod SetLemmas
pub mod HandLemmas
pub mod SessionLemmas
pub mod PortLemmas
pub mod WriteLemmas
pub mod QuestionLemmas
pub mod AskingLemmas
