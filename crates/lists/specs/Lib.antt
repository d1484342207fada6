pub mod Lists
pub mod Padded
