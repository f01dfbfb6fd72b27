use Rattle.std.proofs.Common.{◌≡◌, ◌==◌, take, true}
use Rattle.std.specs.List.{list_any}
use Rattle.ckc_assign.specs.code.Ranges.{Sees}
use Rattle.ckc_assign.proofs.ranges.see_each.Given as goal

abbrev pub invariant-loop-r : goal.invariant-loop-r
invariant-loop-r l = Sees (λ q. list_any (λ a. a == q) (take l.r-index l.rs) ≡ true) l.place l.initial.ranges l.ranges
