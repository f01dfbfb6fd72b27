use Rattle.std.proofs.Common.{◌≡◌, drop}
use Rattle.ckc_bounds_statements.specs.code.Parts.{needs_some}
use Rattle.ckc_bounds_statements.proofs.needs.needs_some.Given as goal

-- what is left decides
abbrev pub invariant-loop-e : goal.invariant-loop-e
invariant-loop-e l = needs_some l.frame l.es ≡ needs_some l.frame (drop l.e-index l.es)
