pub mod Admission
pub mod Readiness
pub mod Reads
