use Rattle.std.proofs.Common.{◌≡◌, [], drop}
use Rattle.ckc_bounds_ranges.specs.Bundles.{all_follow}
use Rattle.ckc_bounds_ranges.proofs.bundles.all_follow.Given as goal

-- what is left gives what the whole gives
abbrev pub invariant-loop-s : goal.invariant-loop-s
invariant-loop-s l = all_follow l.ss [] ≡ all_follow (drop l.s-index l.ss) l.earlier
