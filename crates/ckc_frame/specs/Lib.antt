pub mod Places
pub mod Meaning
pub mod WellFormed
pub mod Example
