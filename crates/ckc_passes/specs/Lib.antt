pub mod Values
pub mod Counts
pub mod Passes
pub mod Rewrites
pub mod code
