-- The bounds of a declaration where it stands.
use Rattle.ckc_base.specs.Outcomes.{Outcome}
use Rattle.ckc_syntax.specs.declared.tree.Name.{Name}
use Rattle.ckc_syntax.specs.declared.tree.Name.TheVariants as name
use Rattle.ckc_typed.specs.Trees.{NotedDecl}
use Rattle.ckc_typed.specs.Types.{type_written}
use Rattle.ckc_bounds_points.specs.declared.frame.Bounds.{Bounds}
use Rattle.ckc_bounds_points.specs.declared.frame.Frame.{Frame}
use Rattle.ckc_bounds_declared.specs.declared.limits.Holder.{Holder}
use Rattle.ckc_bounds_declared.specs.declared.limits.Holder.TheVariants as holder
use Rattle.ckc_bounds_declared.specs.Written.{bounds_declared}

-- What a declared name is to its bounds: a local, or else an object of file scope.
abbrev pub holder_of : Name → Holder
holder_of (name.Local k) = holder.Local k
holder_of _ = holder.Static

-- the bounds of a declaration, or E603
abbrev pub decl_bounds : Frame → Holder → NotedDecl → Outcome Bounds
decl_bounds frame h d = bounds_declared frame h (type_written d.ctype) d.length d.bounds

-- the bounds of a declaration that is judged where it stands, or E603
abbrev pub bounds_there : Frame → NotedDecl → Outcome Bounds
bounds_there frame d = decl_bounds frame (holder_of d.name) d
