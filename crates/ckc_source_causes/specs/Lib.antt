pub mod Layouts
pub mod Ranges
pub mod WellFormed
pub mod Causes
