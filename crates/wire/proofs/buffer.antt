pub mod Room
pub mod Reach
