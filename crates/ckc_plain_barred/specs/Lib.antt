pub mod Integers
pub mod Forms
pub mod Effects
pub mod Barred
pub mod code
