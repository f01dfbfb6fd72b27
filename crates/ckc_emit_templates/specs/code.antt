pub mod Emitting
pub mod Saved
pub mod Start
pub mod Templates
