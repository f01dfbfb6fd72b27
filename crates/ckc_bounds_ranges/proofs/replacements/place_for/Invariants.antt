use Rattle.std.proofs.Common.{◌≡◌, drop}
use Rattle.ckc_bounds_ranges.specs.Replaced.{place_for}
use Rattle.ckc_bounds_ranges.proofs.replacements.place_for.Given as goal

-- what is left gives what the whole gives
abbrev pub invariant-loop-r : goal.invariant-loop-r
invariant-loop-r l = place_for l.bases l.base ≡ place_for (drop l.r-index l.bases) l.base
