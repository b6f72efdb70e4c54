pub mod Types
pub mod Calendar
pub mod Values
pub mod Texts
pub mod Times
pub mod Parsing
