pub mod Given
pub mod OneToOne
pub mod Refusals
