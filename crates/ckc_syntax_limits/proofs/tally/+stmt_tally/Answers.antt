use Rattle.std.proofs.Common.{◌+◌, drop, ap, sym, ◌∙◌}
use Rattle.std.specs.Prelude.{flat_map}
use Rattle.ckc_syntax_limits.specs.Marks.{marks_of_value, marks_of_act, marks_of_stmt, marks_of_part}
use Rattle.ckc_syntax_limits.specs.code.Tally.{tallied}
use Rattle.ckc_syntax_limits.proofs.Tallies.{tallied_append, tallied_turn, four_tallied, marks_of_assign, marks_of_if, marks_of_while, marks_of_for, marks_of_block, marks_of_bundle}
use Rattle.ckc_syntax_limits.proofs.tally.+stmt_tally.Goals as goal

pub stmts_tally-loop-stmt-preserved : goal.stmts_tally-loop-stmt-preserved
stmts_tally-loop-stmt-preserved g t c =
    let rest = flat_map marks_of_stmt (drop (c.loop-stmt.stmt-index + 1) c.args.stmts.now) in
    c.loop-stmt.invariant
    ∙ tallied_turn marks_of_stmt c.loop-stmt.tally c.args.stmts.now c.loop-stmt.stmt-index c.stmt-item.result c.loop-stmt-test.true c.stmt-item.is
    ∙ ap (λ t. tallied t rest) (sym c.stmt_tally-tally.ensures)

pub act_tally-returns-in-Block : goal.act_tally-returns-in-Block
act_tally-returns-in-Block g t c =
    let e = ap marks_of_act c.in-Block.is ∙ marks_of_block c.in-Block.field-0 c.in-Block.stmts ∙ ap (λ ss. flat_map marks_of_stmt ss) (sym c.as_slice.ensures) in
    c.stmts_tally.ensures ∙ ap (λ ms. tallied c.args.so_far ms) (sym e)

pub act_tally-returns-in-Bundle : goal.act_tally-returns-in-Bundle
act_tally-returns-in-Bundle g t c =
    let e = ap marks_of_act c.in-Bundle.is ∙ marks_of_bundle c.in-Bundle.stmts ∙ ap (λ ss. flat_map marks_of_stmt ss) (sym c.as_slice-in-Bundle.ensures) in
    c.stmts_tally-in-Bundle.ensures ∙ ap (λ ms. tallied c.args.so_far ms) (sym e)

pub act_tally-returns-in-Assign : goal.act_tally-returns-in-Assign
act_tally-returns-in-Assign g t c = rw (c.in-Assign.is, marks_of_assign, tallied_append) (cc)

pub act_tally-returns-in-If : goal.act_tally-returns-in-If
act_tally-returns-in-If g t c = rw (c.in-If.is, marks_of_if, tallied_append, tallied_append) (cc)

pub act_tally-returns-in-While : goal.act_tally-returns-in-While
act_tally-returns-in-While g t c = rw (c.in-While.is, marks_of_while, tallied_append) (cc)

pub act_tally-returns-in-For : goal.act_tally-returns-in-For
act_tally-returns-in-For g t c =
    let whole = ap marks_of_act c.in-For.is ∙ marks_of_for c.in-For.first c.in-For.e c.in-For.step c.in-For.body in
    four_tallied c.args.so_far c.part_tally-in-For.result c.value_tally-so_far.result c.part_tally-in-For-2.result _
    (marks_of_part c.in-For.first) (marks_of_value c.in-For.e) (marks_of_part c.in-For.step) (marks_of_stmt c.in-For.body)
    c.part_tally-in-For.ensures c.value_tally-so_far.ensures c.part_tally-in-For-2.ensures
    (c.stmt_tally-in-For.ensures ∙ ap (λ s. tallied c.part_tally-in-For-2.result (marks_of_stmt s)) c.get-in-For.ensures)
    ∙ ap (λ ms. tallied c.args.so_far ms) (sym whole)
