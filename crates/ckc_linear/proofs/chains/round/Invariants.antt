use Rattle.std.proofs.Common.{◌≡◌, take}
use Rattle.std.specs.Bool.{OnFalse}
use Rattle.ckc_linear.specs.code.Rows.{IsRound}
use Rattle.ckc_linear.proofs.chains.round.Given as goal

-- the facts so far have lowered what they can
abbrev pub invariant-loop-f : goal.invariant-loop-f
invariant-loop-f l = record {
  round : IsRound (take l.f-index l.f-items) l.sums l.next;
  same : OnFalse l.lowered (l.next ≡ l.sums);
}
