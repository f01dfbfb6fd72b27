pub use Rattle.ckc_blame_steps
pub use Rattle.ckc_build_sizes
