pub mod LaidOut
pub mod Pointers
pub mod Layout
pub mod Multiples
pub mod Places
pub mod Scalars
pub mod Same
