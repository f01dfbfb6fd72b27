pub mod Strings
pub mod Tokens
mod Grammar
pub mod Named
mod Noteless
pub mod Chain
mod Words
mod PlainExprs
mod PlainStmts
pub mod Whole
