pub mod Bytes
pub mod Memories
pub mod Points
pub mod Runs
pub mod code
