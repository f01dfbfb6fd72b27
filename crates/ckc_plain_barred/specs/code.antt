pub mod First
pub mod Locals
pub mod Refused
