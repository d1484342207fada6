pub mod Filling
pub mod Looking
pub mod Scanning
mod Testing
