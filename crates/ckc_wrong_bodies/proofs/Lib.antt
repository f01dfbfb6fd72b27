pub mod Calls
pub mod Ending
pub mod Standing
pub mod Sums
pub mod Trailing
