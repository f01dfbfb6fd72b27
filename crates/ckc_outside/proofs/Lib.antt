pub mod Files
pub mod Giving
