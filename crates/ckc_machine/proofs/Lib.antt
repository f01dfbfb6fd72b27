pub mod Held
pub mod Turning
pub mod Moving
pub mod Points
pub mod Arrivals
pub mod Giving
pub mod Stepping
pub mod ByOperation
