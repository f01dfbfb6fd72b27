mod Items
mod Given
mod Noteless
pub mod Whole
