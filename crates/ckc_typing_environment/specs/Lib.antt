pub mod Numbered
pub mod code
