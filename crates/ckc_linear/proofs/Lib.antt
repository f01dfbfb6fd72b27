pub mod InRange
pub mod Rounds
pub mod Runs
pub mod Shifts
pub mod Values
pub mod Walks
