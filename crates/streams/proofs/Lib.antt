pub mod Basics
pub mod OneCall
pub mod Theorem
pub mod Reachable
pub mod Offering
pub mod Timeline
pub mod Instance
