use Rattle.ckc_asm.specs.code.Reading.{readings_in}
use Rattle.ckc_asm.specs.code.Rows.{statements_in}
use Rattle.ckc_asm.proofs.RowsBelow.{AreRowsBelow}
use Rattle.ckc_asm.proofs.statements.rows_of.Given as goal

abbrev pub invariant-loop-k : goal.invariant-loop-k
invariant-loop-k l = AreRowsBelow (readings_in l.lines) l.k l.entered (statements_in l.rows.items)
