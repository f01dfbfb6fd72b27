pub mod Runs
pub mod code
