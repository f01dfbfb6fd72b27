pub mod Working
pub mod Planning
pub mod Feeding
pub mod Reaching
pub mod Stepping
pub mod Giving
pub mod Ending
pub mod Acting
