pub mod Nodes
mod Rows
mod Held
mod Bares
mod TypedNodes
mod Backs
mod Decls
mod Acts
mod TypedActs
mod ActsBack
pub mod Insides
pub mod Folds
pub mod ByParts
pub mod Seen
mod Texts
pub mod MarksKept
mod DepthKept
mod SmallKept
mod Exactly
pub mod FormKept
