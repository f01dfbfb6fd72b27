use Rattle.ckc_asm.specs.Program.{IsEntry}
use Rattle.ckc_asm.specs.code.Rows.{statements_in}
use Rattle.ckc_asm.proofs.LabelUses.{NoneBelow}
use Rattle.ckc_asm.proofs.image.entry_of.Given as goal

abbrev pub invariant-loop-row : goal.invariant-loop-row
invariant-loop-row l = NoneBelow (λ k s. IsEntry s.item.form) (statements_in l.rows) l.row-index
