pub mod Judge
pub mod Pieces
pub mod Skip
