pub mod Assembled
pub mod code
