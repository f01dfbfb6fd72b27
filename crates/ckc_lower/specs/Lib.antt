pub mod Idle
pub mod code
