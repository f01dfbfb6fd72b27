use Rattle.std.proofs.Common.{◌≡◌}
use Rattle.ckc_assign.specs.code.Ranges.{SeesFirst, first_place}
use Rattle.ckc_assign.proofs.ranges.see_all.Given as goal

abbrev pub invariant-loop-b : goal.invariant-loop-b
invariant-loop-b l = record {
  place : l.place ≡ first_place l.f l.b;
  seen : SeesFirst l.f l.b l.ranges;
}
