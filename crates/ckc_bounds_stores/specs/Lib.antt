pub mod Targets
pub mod Values
pub mod Stores
pub mod code
