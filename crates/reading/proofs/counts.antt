pub mod Answered
pub mod Promised
