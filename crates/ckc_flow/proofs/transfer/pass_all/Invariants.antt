use Rattle.std.proofs.Common.{◌≡◌, ◌≤◌, drop, length}
use Rattle.ckc_flow.specs.code.Rows.{passed_all}
use Rattle.ckc_flow.proofs.transfer.pass_all.Given as goal

abbrev pub invariant-loop-i : goal.invariant-loop-i
invariant-loop-i l = record {
  within : l.i ≤ length l.ops;
  row : l.row ≡ passed_all (drop l.i l.ops) l.initial.row;
}

abbrev pub decreases-loop-i : goal.decreases-loop-i
decreases-loop-i l = l.i
