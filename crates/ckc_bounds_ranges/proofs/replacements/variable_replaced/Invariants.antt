use Rattle.std.proofs.Common.{◌≡◌, drop}
use Rattle.ckc_bounds_ranges.specs.Replaced.{variable_replaced}
use Rattle.ckc_bounds_ranges.proofs.replacements.variable_replaced.Given as goal

-- what is left gives what the whole gives
abbrev pub invariant-loop-r : goal.invariant-loop-r
invariant-loop-r l = variable_replaced l.variables l.x ≡ variable_replaced (drop l.r-index l.variables) l.x
