pub mod Chains
pub mod Plays
pub mod Tops
