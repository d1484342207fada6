pub mod Teaching
pub mod ReadBack
pub mod Examples
