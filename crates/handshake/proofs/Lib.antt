pub mod Decimals
pub mod HelloLaws
pub mod LineEnds
pub mod NameBytes
pub mod RoundTrip
