pub mod Table
pub mod Effects
pub mod Machine
pub mod Detailed
pub mod Outcomes
pub mod code
