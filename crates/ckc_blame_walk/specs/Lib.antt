pub mod Walks
pub mod Scopes
pub mod Entries
pub mod Ready
pub use Rattle.ckc_blame_declared
pub use Rattle.ckc_blame_nested
