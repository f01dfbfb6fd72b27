pub mod Folded
pub mod code
