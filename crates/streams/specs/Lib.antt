pub mod Model
pub mod Calls
pub mod Claim
pub mod Fold
pub mod Toy
pub mod Examples
