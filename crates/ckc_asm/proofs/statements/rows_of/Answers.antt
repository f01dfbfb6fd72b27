use Rattle.std.proofs.Common.{ap, ◌∙◌, ◌∷◌, []}
use Rattle.std.proofs.lemmas.List.{map-append}
use Rattle.std.proofs.lemmas.Result.{err_from_is_err_and}
use Rattle.ckc_asm.specs.code.Rows.{statement_in, statements_in}
use Rattle.ckc_asm.proofs.RowsBelow.{lines_more, lines_stop, lines_all}
use Rattle.ckc_asm.proofs.statements.rows_of.Goals as goal

pub returns-in_err-row-clause-fault : goal.returns-in_err-row-clause-fault
returns-in_err-row-clause-fault c =
    let p = err_from_is_err_and c.from_residual.result c.from_residual.ensures.1 in
    rw (p.1, p.2) (lines_stop c.args.lines.now c.loop-k.k _ c.loop-k.entered _ _ c.loop-k-test.true c.in_err-row.ensures.fault c.loop-k.invariant)

pub loop-k-preserved : goal.loop-k-preserved
loop-k-preserved c =
    lines_more c.args.lines.now c.loop-k.k _ c.loop-k.entered _ (statements_in c.loop-k.rows.items) _ (statement_in c.in_ok-row.row) c.loop-k-test.true c.in_ok-row.ensures.row c.has_entered-entered.ensures
    (ap statements_in c.in_ok-push.ensures.items ∙ map-append statement_in c.loop-k.rows.items (c.in_ok-row.row ∷ [])) c.loop-k.invariant

pub returns-clause-rows : goal.returns-clause-rows
returns-clause-rows c = lines_all _ _ _ _ c.loop-k-test.false c.loop-k.invariant
