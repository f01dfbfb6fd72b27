pub mod Sample
pub mod Alone
pub mod code
