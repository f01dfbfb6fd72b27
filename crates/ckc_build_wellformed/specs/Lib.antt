pub use Rattle.ckc_build_forms.specs.ckc_blame_steps
pub use Rattle.ckc_build_forms.specs.ckc_build_sizes
pub use Rattle.ckc_source_causes
