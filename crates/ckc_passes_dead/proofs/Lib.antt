pub mod Wanted
pub mod Passing
pub mod Outcomes
pub mod Faithful
pub mod Effects
