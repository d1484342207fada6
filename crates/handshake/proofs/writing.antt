pub mod DigitArray
pub mod Putting
