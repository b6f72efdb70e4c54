pub mod Addresses
pub mod Blocks
pub mod NoSlash
pub mod Numbers
pub mod Rules
pub mod Slashes
pub mod Texts
