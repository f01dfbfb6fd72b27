pub mod DeclBounds
pub mod Paths
pub mod Walks
pub mod Codes
pub mod code
pub use Rattle.ckc_bounds_ranges
pub use Rattle.ckc_bounds_stores
pub use Rattle.ckc_bounds_views
