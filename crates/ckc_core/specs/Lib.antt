pub mod Code
pub mod Meaning
pub mod WellFormed
pub mod Limits
pub mod Sizes
pub mod Example
pub mod Loops
