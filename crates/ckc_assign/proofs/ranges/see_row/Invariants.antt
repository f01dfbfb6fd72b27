use Rattle.std.proofs.Common.{◌≡◌, ◌<◌, get_or, true, false}
use Rattle.ckc_assign.specs.code.Ranges.{Sees}
use Rattle.ckc_assign.proofs.ranges.see_row.Given as goal

abbrev pub invariant-loop-r : goal.invariant-loop-r
invariant-loop-r l = Sees (λ q. (q < l.r) × (get_or l.row q false ≡ true)) l.place l.initial.ranges l.ranges
