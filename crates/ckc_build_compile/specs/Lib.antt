pub mod Compiled
pub mod Confined
pub mod code
