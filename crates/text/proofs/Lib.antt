pub mod LineWords
pub mod Rooms
pub mod ReadCounts
