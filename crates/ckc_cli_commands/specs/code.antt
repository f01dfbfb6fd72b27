pub mod Commanded
pub mod Commands
pub mod Fetching
pub mod Judging
pub mod Running
pub mod Sampling
