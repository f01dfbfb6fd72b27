pub mod Ways
pub mod Reached
pub mod Left
pub mod Beside
