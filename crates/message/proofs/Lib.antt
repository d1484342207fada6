pub mod Defining
pub mod Acknowledging
pub mod Updating
pub mod Kept
pub mod Ignored
pub mod Replies
