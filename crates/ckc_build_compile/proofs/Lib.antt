pub mod Composed
mod Passing
pub mod Events
pub mod Confining
pub mod Layers
