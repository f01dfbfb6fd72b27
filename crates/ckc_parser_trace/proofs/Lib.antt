pub mod Bytes
pub mod Moving
pub mod Recognised
pub mod Running
pub mod Top
