pub mod Redundant
pub mod code
