use Rattle.std.proofs.Common.{ap, sym, ◌∙◌, subst, Ok}
use Rattle.std.proofs.lemmas.Result.{err_from_is_err_and}
use Rattle.ckc_base.specs.Outcomes.{bind}
use Rattle.ckc_typed.specs.Expressions.{expr_typed, exprs_typed, node_typed}
use Rattle.ckc_base.specs.Outcomes.{AnswersOutcome}
use Rattle.ckc_typing.proofs.Nodes.{number_is, calloc_is, allocated}
use Rattle.ckc_base.proofs.Ends.{stops}
use Rattle.ckc_base.proofs.Turns.{begin, turn_fault, turn_done, turn_end}
use Rattle.ckc_typing.proofs.expressions.+expr.Goals as goal

pub typed_exprs-loop-e-init : goal.typed_exprs-loop-e-init
typed_exprs-loop-e-init t c = begin (exprs_typed c.args.globals.now c.args.variables.now c.args.mode c.args.es.now) _ c.new-all.ensures

pub typed_exprs-returns-in_err-typed : goal.typed_exprs-returns-in_err-typed
typed_exprs-returns-in_err-typed t c =
    let f = expr_typed c.args.globals.now c.args.variables.now c.args.mode in
    let p = err_from_is_err_and c.from_residual.result c.from_residual.ensures.1 in
    stops (f c.e-item.result) (exprs_typed c.args.globals.now c.args.variables.now c.args.mode c.args.es.now) c.from_residual.result p.0 c.in_err-typed.field-0.0 p.1 p.2 c.in_err-typed.ensures
    (turn_fault f c.args.es.now c.loop-e.e-index _ _ c.loop-e.invariant c.e-item.result c.loop-e-test.true c.e-item.is)

pub typed_exprs-loop-e-preserved : goal.typed_exprs-loop-e-preserved
typed_exprs-loop-e-preserved t c =
    turn_done (expr_typed c.args.globals.now c.args.variables.now c.args.mode) c.args.es.now c.loop-e.e-index _ _ c.loop-e.invariant c.e-item.result c.in_ok-typed.typed _ c.loop-e-test.true c.e-item.is c.in_ok-typed.ensures c.in_ok-push.ensures.ok

pub typed_exprs-returns : goal.typed_exprs-returns
typed_exprs-returns t c = turn_end (expr_typed c.args.globals.now c.args.variables.now c.args.mode) c.args.es.now c.loop-e.e-index _ _ c.loop-e.invariant c.loop-e-test.false

pub typed_node-returns-in-Number : goal.typed_node-returns-in-Number
typed_node-returns-in-Number t c =
    ap (λ d. node_typed c.args.globals.now c.args.variables.now c.args.mode d c.args.pos) c.in-Number.is
    ∙ number_is c.args.globals.now c.args.variables.now c.args.mode c.args.pos c.in-Number.n c.in-Number.unsigned
    ∙ ap (λ e. Ok e) (sym c.number.ensures)

pub typed_node-returns-in_ok-e-in-Calloc : goal.typed_node-returns-in_ok-e-in-Calloc
typed_node-returns-in_ok-e-in-Calloc t c =
    let next = allocated c.args.globals.now c.args.variables.now c.args.mode c.args.pos c.in-Calloc.w c.in-Calloc.x in
    let q = ap (λ d. node_typed c.args.globals.now c.args.variables.now c.args.mode d c.args.pos) c.in-Calloc.is
    ∙ calloc_is c.args.globals.now c.args.variables.now c.args.mode c.args.pos c.in-Calloc.w c.in-Calloc.e c.in-Calloc.x
    ∙ ap (λ e. bind (expr_typed c.args.globals.now c.args.variables.now c.args.mode e) next) (sym c.get-in-Calloc.ensures)
    ∙ ap (λ o. bind o next) c.in_ok-e-in-Calloc.ensures in
    subst (λ o. AnswersOutcome c.allocation.result o) (sym q) c.allocation.ensures
