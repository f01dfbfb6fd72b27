pub mod Live
pub mod code
