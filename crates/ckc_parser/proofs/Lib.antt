pub mod Answering
pub mod Built
pub mod Decided
pub mod Once
