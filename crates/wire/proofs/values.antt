pub mod Limited
pub mod Server
