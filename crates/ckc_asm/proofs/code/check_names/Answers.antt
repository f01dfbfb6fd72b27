use Rattle.std.proofs.Common.{refl, arith}
use Rattle.ckc_asm.specs.code.Rows.{statement_in}
use Rattle.ckc_asm.proofs.LabelsBelow.{row_at, rows_size}
use Rattle.ckc_asm.proofs.LabelUses.{unknown_names, known_names, first_here, none_more, none_all}
use Rattle.ckc_asm.proofs.code.check_names.Goals as goal

pub returns-then-is_unknown-clause-fault : goal.returns-then-is_unknown-clause-fault
returns-then-is_unknown-clause-fault c =
    let here = row_at c.args.rows.now c.loop-k.k c.index-rows-k.result c.loop-k-test.true c.index-rows-k.is in
    let s = statement_in c.index-rows-k.result in
    let bad = unknown_names _ _ c.loop-k.k s c.requires.exact (c.is_unknown.ensures.unknown c.if-is_unknown.true) in
    rw c.refused.ensures ((c.loop-k.k, s, s.operand, first_here _ _ _ _ here bad c.loop-k.invariant, refl, refl), refl)

pub loop-k-preserved : goal.loop-k-preserved
loop-k-preserved c =
    let here = row_at c.args.rows.now c.loop-k.k c.index-rows-k.result c.loop-k-test.true c.index-rows-k.is in
    none_more _ _ _ _ here (known_names _ _ c.loop-k.k (statement_in c.index-rows-k.result) _ c.requires.exact c.is_unknown.ensures.known c.if-is_unknown.false) c.loop-k.invariant

pub returns-clause-names : goal.returns-clause-names
returns-clause-names c = none_all _ _ _ (omega (arith, rows_size c.args.rows.now)) c.loop-k.invariant
