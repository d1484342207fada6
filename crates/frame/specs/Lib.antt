pub mod Frame
pub mod Examples
