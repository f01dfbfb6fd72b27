pub mod Operations
pub mod Tables
pub mod Blocks
