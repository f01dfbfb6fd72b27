use Rattle.std.proofs.Common.{◌≡◌, ◌+◌, ◌*◌, ◌≤◌}
use Rattle.ckc_asm.specs.Program.{address_of}
use Rattle.ckc_asm.specs.code.Rows.{statements_in}
use Rattle.ckc_asm.proofs.LabelUses.{AreWordsBelow}
use Rattle.ckc_asm.proofs.code.code_of.Given as goal

abbrev pub invariant-loop-k : goal.invariant-loop-k
invariant-loop-k l = record {
  at : l.address ≡ address_of (statements_in l.rows) l.k;
  low : l.address ≤ 4096 + 4 * l.k;
  words : AreWordsBelow (statements_in l.rows) l.k l.code.items;
}
