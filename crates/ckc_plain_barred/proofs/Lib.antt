pub mod Firsts
pub mod Found
pub mod FoundActs
pub mod FoundNodes
pub mod Locals
