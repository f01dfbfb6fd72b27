pub mod Pieces
pub mod Statements
pub mod FineProgram
pub mod SwappedLast
