pub mod Fields
pub mod Reading
pub mod Bodies
pub mod Encodings
pub mod ReadBack
pub mod Breaks
pub mod Examples
