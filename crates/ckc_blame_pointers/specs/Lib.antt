pub mod Owed
pub mod Valuations
pub mod Covered
pub mod Meant
