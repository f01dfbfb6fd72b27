pub mod Terms
pub mod Built
pub mod Lowered
