pub mod Held
pub mod Views
