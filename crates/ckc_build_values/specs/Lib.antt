pub mod Kinds
pub mod Members
pub mod Names
pub mod Ends
pub mod Operators
pub mod Places
pub mod Expressions
pub mod Bounded
