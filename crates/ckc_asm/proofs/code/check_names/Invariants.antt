use Rattle.ckc_asm.specs.Faults.{NamesNothing}
use Rattle.ckc_asm.specs.code.Rows.{statements_in}
use Rattle.ckc_asm.proofs.LabelUses.{NoneBelow}
use Rattle.ckc_asm.proofs.code.check_names.Given as goal

abbrev pub invariant-loop-k : goal.invariant-loop-k
invariant-loop-k l = NoneBelow (NamesNothing (statements_in l.rows)) (statements_in l.rows) l.k
