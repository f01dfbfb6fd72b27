pub mod Made
pub mod Statements
