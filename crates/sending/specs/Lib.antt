pub mod Sending
pub mod Finish
pub mod Leaves
pub mod Examples
