use Rattle.std.proofs.Common.{◌≡◌, map, drop}
use Rattle.ckc_bounds.specs.Declarations.{each, param_bounds}
use Rattle.ckc_bounds.proofs.declared.params_fit.Given as goal

-- what is left gives what the whole gives
abbrev pub invariant-loop-d : goal.invariant-loop-d
invariant-loop-d l = each (map (param_bounds l.frame) l.ds) ≡ each (map (param_bounds l.frame) (drop l.d-index l.ds))
