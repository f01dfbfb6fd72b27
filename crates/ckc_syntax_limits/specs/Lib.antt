pub mod Codes
pub mod Depth
pub mod Marks
pub mod Phase
pub mod Small
pub mod code
