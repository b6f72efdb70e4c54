pub mod Digits
pub mod Lines
pub mod InputLines
pub mod JsonValues
