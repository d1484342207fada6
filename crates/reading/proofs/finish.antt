pub mod Receiving
pub mod Promising
pub mod Finishing
