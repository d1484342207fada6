pub mod Narrow
pub mod EntryTests
