pub mod Integer
pub mod Number
pub mod Value
pub mod Server
pub mod Room
pub mod Writing
pub mod Examples
