pub mod Followed
pub mod Shrunk
pub mod Rewritten
pub mod Forwarded
pub mod Emptied
pub mod Valued
pub mod Once
