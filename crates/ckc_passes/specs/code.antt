pub mod Faithful
pub mod Forward
