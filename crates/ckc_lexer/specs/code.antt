pub mod DirectiveReading
pub mod LiteralReading
pub mod Longest
pub mod Reading
