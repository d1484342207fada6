pub mod Judging
pub mod Lengths
pub mod Limits
pub mod Behind
