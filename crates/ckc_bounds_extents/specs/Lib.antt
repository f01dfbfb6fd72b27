pub use Rattle.ckc_bounds_views
pub use Rattle.ckc_bounds_views.specs.ckc_bounds_points
