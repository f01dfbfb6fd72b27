pub mod Decoded
pub mod Outcomes
