pub mod Held
pub mod Views
pub mod code
