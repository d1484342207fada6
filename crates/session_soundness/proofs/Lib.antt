pub mod Closing
pub mod Facts
pub mod Keeping
pub mod Records
pub mod RecordTests
pub mod Waiting
