pub mod ActLayers
mod Around
pub mod Seen
