pub mod MessageBytes
pub mod LastUpdates
