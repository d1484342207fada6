pub mod Cases
pub mod Listing
pub mod ListingCalls
