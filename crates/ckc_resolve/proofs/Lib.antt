pub mod Coded
pub mod CodedItems
pub mod CodedNodes
pub mod FirstHeads
pub mod StaticItems
pub mod Indexing
pub mod MainDeclared
pub mod Parts
pub mod Search
pub mod StatementParts
pub mod Tables
mod TakenOff
