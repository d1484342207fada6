pub mod Bytes
pub mod Handshake
pub mod Examples
