pub mod Meanings
pub mod Confined
pub mod Built
pub mod Sizes
pub mod Codes
