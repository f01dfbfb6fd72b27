pub mod Found
pub mod Counted
pub mod Parts
pub mod Bounded
