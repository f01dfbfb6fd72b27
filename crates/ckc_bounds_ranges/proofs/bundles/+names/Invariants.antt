use Rattle.std.proofs.Common.{◌≡◌, map, drop}
use Rattle.ckc_bounds_ranges.specs.Bundles.{some_names, mention}
use Rattle.ckc_bounds_ranges.proofs.bundles.+names.Given as goal

-- what is left gives what the whole gives
abbrev pub invariant-some_name-loop-e : goal.invariant-some_name-loop-e
invariant-some_name-loop-e l = some_names l.t (map mention l.es) ≡ some_names l.t (map mention (drop l.e-index l.es))
