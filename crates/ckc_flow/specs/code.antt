pub mod Rows
pub mod Rounds
