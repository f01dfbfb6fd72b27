pub mod Jumps
pub mod code
