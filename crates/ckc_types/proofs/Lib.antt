pub mod Aligns
pub mod Forms
pub mod Multiples
pub mod Offsets
pub mod Wrapping
