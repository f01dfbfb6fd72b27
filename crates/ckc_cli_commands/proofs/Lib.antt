pub mod Fetching
pub mod Obeying
pub mod Sampling
pub mod Limits
pub mod Wording
pub mod Shows
pub mod Blamed
