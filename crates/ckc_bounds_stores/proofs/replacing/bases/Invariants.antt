use Rattle.std.proofs.Common.{◌≡◌, ◌++◌, map, drop}
use Rattle.std.specs.List.{filter_map}
use Rattle.ckc_bounds_points.specs.Shown.{known}
use Rattle.ckc_bounds_stores.specs.Stores.{base_by}
use Rattle.ckc_bounds_stores.specs.code.Stores.{placed}
use Rattle.ckc_bounds_stores.proofs.replacing.bases.Given as goal

-- those so far, and those of the assignments that are left, are all
abbrev pub invariant-loop-p : goal.invariant-loop-p
invariant-loop-p l =
    l.all.items ++ filter_map (base_by l.frame (known l.facts)) (map placed (drop l.p-index l.ps))
    ≡ filter_map (base_by l.frame (known l.facts)) (map placed l.ps)
