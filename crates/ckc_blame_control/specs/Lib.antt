pub mod Ready
pub mod Decided
pub mod Kept
pub mod Known
pub mod Whole
