pub mod Taken
pub mod Expressions
pub mod Statements
pub mod code
