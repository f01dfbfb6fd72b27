pub mod Dead
pub mod Effects
pub mod code
