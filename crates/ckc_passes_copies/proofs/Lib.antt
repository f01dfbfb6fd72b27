pub mod Following
pub mod Tracing
pub mod Copying
