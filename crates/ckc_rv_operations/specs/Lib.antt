pub mod Codes
pub mod code
