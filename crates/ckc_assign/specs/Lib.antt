pub mod Apart
pub mod Slots
pub mod code
