pub mod Turns
pub mod Blocks
pub mod Acts
pub mod There
pub mod Counted
pub mod Laid
pub mod Kept
