pub mod Taking
pub mod Replies
