pub mod Opening
pub mod Examples
pub mod New
