pub mod Ranges
pub mod Homes
pub mod Kept
pub mod Assigned
