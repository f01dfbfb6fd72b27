pub mod Operations
pub mod Meaning
pub mod WellFormed
pub mod Sizes
pub mod Example
pub mod code
