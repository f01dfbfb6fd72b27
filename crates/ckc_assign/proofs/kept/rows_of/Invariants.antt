use Rattle.std.proofs.Common.{◌≤◌, drop, length, reverse, []}
use Rattle.ckc_tac.specs.declared.code.TacFunc.{TacFunc}
use Rattle.ckc_tac.specs.declared.code.TacEnd.{TacEnd}
use Rattle.ckc_flow.specs.Live.{IsExact}
use Rattle.ckc_assign.specs.code.Kept.{AreKept}
use Rattle.ckc_assign.proofs.kept.rows_of.Given as goal

abbrev pub invariant-loop-i : goal.invariant-loop-i
invariant-loop-i l = record {
  within : l.i ≤ length l.ops;
  kept : (f : TacFunc) (end : TacEnd) → IsExact f [] end l.initial.row
      → IsExact f (drop l.i l.ops) end l.row × AreKept f end (drop l.i l.ops) (reverse l.rows.items);
}

abbrev pub decreases-loop-i : goal.decreases-loop-i
decreases-loop-i l = l.i
