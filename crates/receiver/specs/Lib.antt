pub mod Model
pub mod Good
pub mod Promise
pub mod Parts
pub mod Ledger
pub mod Demand3
pub mod Corollaries
