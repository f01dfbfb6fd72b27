use Rattle.std.proofs.Common.{◌≡◌, take}
use Rattle.ckc_flow.specs.code.Rows.{joined}
use Rattle.ckc_flow.proofs.transfer.add.Given as goal

abbrev pub invariant-loop-r : goal.invariant-loop-r
invariant-loop-r l = l.row ≡ joined (take l.r l.other) l.initial.row
