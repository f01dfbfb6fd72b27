pub mod Found
pub mod Numerals
pub mod Outcome
pub mod Reading
pub mod Rows
pub mod Spelled
