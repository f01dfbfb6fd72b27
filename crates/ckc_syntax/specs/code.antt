pub mod Decoded
pub mod DigitReading
pub mod SameParts
