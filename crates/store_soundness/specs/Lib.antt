pub mod Narrow
pub mod Hashes
pub mod Codes
