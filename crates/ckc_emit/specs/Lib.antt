pub mod Stores
pub mod Spared
pub mod CodeSize
pub mod Promise
pub mod code
