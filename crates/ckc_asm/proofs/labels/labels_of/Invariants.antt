use Rattle.std.proofs.Common.{◌≡◌, ◌+◌, ◌*◌, ◌≤◌}
use Rattle.ckc_asm.specs.Program.{address_of}
use Rattle.ckc_asm.specs.code.Reading.{known}
use Rattle.ckc_asm.specs.code.Rows.{statements_in}
use Rattle.ckc_asm.proofs.LabelsBelow.{AreLabelsBelow}
use Rattle.ckc_asm.proofs.labels.labels_of.Given as goal

abbrev pub invariant-loop-k : goal.invariant-loop-k
invariant-loop-k l = record {
  at : l.address ≡ address_of (statements_in l.rows) l.k;
  low : l.address ≤ 4096 + 4 * l.k;
  labels : AreLabelsBelow (known l.labels) (statements_in l.rows) l.k;
}
