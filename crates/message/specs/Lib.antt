pub mod Changes
pub mod Targets
pub mod Effects
pub mod Structs
pub mod Examples
