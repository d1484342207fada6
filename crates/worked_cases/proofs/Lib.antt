pub mod CasesHold
pub mod ListingHolds
pub mod ListingByCalls
