pub mod Cases
pub mod Compilable
pub mod Weights
pub mod code
