pub mod Values
pub mod Types
pub mod StandardTypes
