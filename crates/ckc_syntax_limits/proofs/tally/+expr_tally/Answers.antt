use Rattle.std.proofs.Common.{◌+◌, drop, ap, sym, ◌∙◌}
use Rattle.std.specs.Prelude.{flat_map}
use Rattle.ckc_syntax_limits.specs.Marks.{marks_of_node, marks_of_expr}
use Rattle.ckc_syntax_limits.specs.code.Tally.{tallied}
use Rattle.ckc_syntax_limits.proofs.Tallies.{tallied_append, tallied_turn, marks_of_between, marks_of_bin, marks_of_index, marks_of_pick, marks_of_trusted, marks_of_tested, marks_of_call}
use Rattle.ckc_syntax_limits.proofs.tally.+expr_tally.Goals as goal

pub exprs_tally-loop-e-preserved : goal.exprs_tally-loop-e-preserved
exprs_tally-loop-e-preserved g t c =
    let rest = flat_map marks_of_expr (drop (c.loop-e.e-index + 1) c.args.es.now) in
    c.loop-e.invariant
    ∙ tallied_turn marks_of_expr c.loop-e.tally c.args.es.now c.loop-e.e-index c.e-item.result c.loop-e-test.true c.e-item.is
    ∙ ap (λ t. tallied t rest) (sym c.expr_tally-tally.ensures)

pub node_tally-returns-in-Call : goal.node_tally-returns-in-Call
node_tally-returns-in-Call g t c =
    let e = ap marks_of_node c.in-Call.is ∙ marks_of_call c.in-Call.field-0 c.in-Call.es ∙ ap (λ es. flat_map marks_of_expr es) (sym c.as_slice.ensures) in
    c.exprs_tally.ensures ∙ ap (λ ms. tallied c.args.so_far ms) (sym e)

pub limits_tally-returns-in-Between : goal.limits_tally-returns-in-Between
limits_tally-returns-in-Between g t c = rw (c.in-Between.is, marks_of_between, tallied_append) (cc)

pub node_tally-returns-in-Bin : goal.node_tally-returns-in-Bin
node_tally-returns-in-Bin g t c = rw (c.in-Bin.is, marks_of_bin, tallied_append) (cc)

pub node_tally-returns-in-Index : goal.node_tally-returns-in-Index
node_tally-returns-in-Index g t c = rw (c.in-Index.is, marks_of_index, tallied_append) (cc)

pub node_tally-returns-in-Pick : goal.node_tally-returns-in-Pick
node_tally-returns-in-Pick g t c = rw (c.in-Pick.is, marks_of_pick, tallied_append, tallied_append) (cc)

pub node_tally-returns-in-Trusted : goal.node_tally-returns-in-Trusted
node_tally-returns-in-Trusted g t c = rw (c.in-Trusted.is, marks_of_trusted, tallied_append) (cc)

pub node_tally-returns-in-Tested : goal.node_tally-returns-in-Tested
node_tally-returns-in-Tested g t c = rw (c.in-Tested.is, marks_of_tested, tallied_append) (cc)
