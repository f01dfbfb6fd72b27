pub mod Growing
pub mod Bounds
pub mod Ran
