pub mod Depths
pub mod Limiting
pub mod Smalls
pub mod Tallies
