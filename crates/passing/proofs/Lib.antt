pub mod Promising
pub mod Turning
