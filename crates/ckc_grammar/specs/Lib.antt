pub mod Derivation
pub mod Makers
pub mod Productions
pub mod Text
pub mod Trees
