pub mod Answers
pub mod Session
pub mod Shape
pub mod Examples
