pub mod Kept
pub mod KeptActs
pub mod KeptArms
pub mod KeptNodes
pub mod Named
pub mod PlainArms
pub mod Stays
pub mod Turns
