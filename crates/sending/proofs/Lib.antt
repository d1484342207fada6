mod Promising
pub mod Leaving
