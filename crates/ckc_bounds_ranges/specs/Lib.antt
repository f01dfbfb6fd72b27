pub mod Replaced
pub mod Contained
pub mod Rows
pub mod Members
pub mod Bundles
