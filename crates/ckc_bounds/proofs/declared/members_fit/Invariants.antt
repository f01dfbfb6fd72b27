use Rattle.std.proofs.Common.{◌≡◌, map, drop}
use Rattle.ckc_bounds_statements.specs.DeclBounds.{decl_bounds}
use Rattle.ckc_bounds.specs.Declarations.{each}
use Rattle.ckc_bounds.proofs.declared.members_fit.Given as goal

-- what is left gives what the whole gives
abbrev pub invariant-loop-d : goal.invariant-loop-d
invariant-loop-d l = each (map (decl_bounds l.frame l.holder) l.ds) ≡ each (map (decl_bounds l.frame l.holder) (drop l.d-index l.ds))
