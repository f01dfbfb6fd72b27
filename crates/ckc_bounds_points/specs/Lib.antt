pub use Rattle.ckc_bounds_known.specs.Shown
pub mod Frames
pub mod Flow
pub mod Forms
pub mod Codes
pub use Rattle.ckc_bounds_known
