pub mod Numbers
pub mod Protocol
pub mod Reading
