pub mod Small
pub mod Tally
