pub mod Shown
pub mod Ranges
pub mod code
