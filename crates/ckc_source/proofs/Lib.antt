pub mod Keeping
mod Blame
