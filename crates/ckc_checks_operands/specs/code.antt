pub mod Operands
pub mod Pointers
