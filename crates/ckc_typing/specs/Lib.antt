pub mod Objects
pub mod Phase
pub mod code
