pub mod Followed
pub mod Stores
pub mod code
