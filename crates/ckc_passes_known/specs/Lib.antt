pub mod Known
pub mod code
