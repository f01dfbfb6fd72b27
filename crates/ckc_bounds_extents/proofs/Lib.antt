pub mod Joined
pub mod Nodes
