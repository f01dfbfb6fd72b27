pub mod Gives
pub mod Planned
pub mod At
pub mod Targets
pub mod Together
pub mod Written
pub mod Stored
pub use Rattle.ckc_blame_pointers
