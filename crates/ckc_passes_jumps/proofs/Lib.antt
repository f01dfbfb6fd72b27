pub mod Walking
pub mod Marking
pub mod Placing
pub mod Once
pub mod Shrunk
pub mod Passings
pub mod Followed
