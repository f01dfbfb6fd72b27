use Rattle.std.proofs.Common.{refl, ap, sym, ◌∙◌, ◌++◌}
use Rattle.std.specs.Prelude.{flat_map}
use Rattle.ckc_typed.specs.Walk.{spots_of_expr, spots_of_value, spots_of_act, spots_of_stmt, spots_of_part}
use Rattle.ckc_scopes.specs.code.Verdict.{verdict}
use Rattle.ckc_scopes.proofs.Verdicts.{stops, goes, loop_stops, loop_goes}
use Rattle.ckc_scopes.proofs.Parts.{parts_of_block, parts_of_bundle, parts_of_assign, parts_of_if, parts_of_while, parts_of_for}
use Rattle.ckc_scopes.proofs.statements.+stmt_fits.Goals as goal

pub act_fits-returns-in_err-expr_fits-in-Assign : goal.act_fits-returns-in_err-expr_fits-in-Assign
act_fits-returns-in_err-expr_fits-in-Assign t c =
    let items = c.args.items.now in
    let all = spots_of_act c.args.act.now c.args.mode in
    let k = parts_of_assign c.in-Assign.e c.in-Assign.f c.args.mode in
    stops items (spots_of_expr c.in-Assign.e) (spots_of_expr c.in-Assign.f) all _ c.expr_fits.result _ c.from_residual.ensures.1 c.in_err-expr_fits-in-Assign.was (cc) (cc)

pub act_fits-returns-in_ok-expr_fits-in-Assign : goal.act_fits-returns-in_ok-expr_fits-in-Assign
act_fits-returns-in_ok-expr_fits-in-Assign t c =
    let items = c.args.items.now in
    let all = spots_of_act c.args.act.now c.args.mode in
    let k = parts_of_assign c.in-Assign.e c.in-Assign.f c.args.mode in
    goes items (spots_of_expr c.in-Assign.e) (spots_of_expr c.in-Assign.f) all c.expr_fits-in-Assign.result c.expr_fits.result c.in_ok-expr_fits-in-Assign.was (cc) (cc) (cc)

pub act_fits-returns-in_err-expr_fits-in-While : goal.act_fits-returns-in_err-expr_fits-in-While
act_fits-returns-in_err-expr_fits-in-While t c =
    let items = c.args.items.now in
    let all = spots_of_act c.args.act.now c.args.mode in
    let k = parts_of_while c.in-While.e c.in-While.s c.args.mode in
    stops items (spots_of_expr c.in-While.e) (spots_of_stmt c.in-While.s) all _ c.expr_fits-in-While.result _ c.from_residual-in_err-expr_fits-in-While.ensures.1 c.in_err-expr_fits-in-While.was (cc) (cc)

pub act_fits-returns-in_ok-expr_fits-in-While : goal.act_fits-returns-in_ok-expr_fits-in-While
act_fits-returns-in_ok-expr_fits-in-While t c =
    let items = c.args.items.now in
    let all = spots_of_act c.args.act.now c.args.mode in
    let k = parts_of_while c.in-While.e c.in-While.s c.args.mode in
    goes items (spots_of_expr c.in-While.e) (spots_of_stmt c.in-While.s) all c.stmt_fits-in-While.result c.expr_fits-in-While.result c.in_ok-expr_fits-in-While.was (cc) (cc) (cc)

pub act_fits-returns-in_err-expr_fits-in-If : goal.act_fits-returns-in_err-expr_fits-in-If
act_fits-returns-in_err-expr_fits-in-If t c =
    let items = c.args.items.now in
    let all = spots_of_act c.args.act.now c.args.mode in
    let k = parts_of_if c.in-If.e c.in-If.s c.in-If.otherwise c.args.mode in
    let more = spots_of_stmt c.in-If.s ++ spots_of_part c.in-If.otherwise in
    stops items (spots_of_expr c.in-If.e) more all _ c.expr_fits-in-If.result _ c.from_residual-in_err-expr_fits-in-If.ensures.1 c.in_err-expr_fits-in-If.was (cc) (cc)

pub act_fits-returns-in_err-stmt_fits-in-If : goal.act_fits-returns-in_err-stmt_fits-in-If
act_fits-returns-in_err-stmt_fits-in-If t c =
    let items = c.args.items.now in
    let all = spots_of_act c.args.act.now c.args.mode in
    let k = parts_of_if c.in-If.e c.in-If.s c.in-If.otherwise c.args.mode in
    let more = spots_of_stmt c.in-If.s ++ spots_of_part c.in-If.otherwise in
    goes items (spots_of_expr c.in-If.e) more all _ c.expr_fits-in-If.result c.in_ok-expr_fits-in-If.was (cc)
    (stops items (spots_of_stmt c.in-If.s) (spots_of_part c.in-If.otherwise) more _ c.stmt_fits.result _ c.from_residual-in_err-stmt_fits-in-If.ensures.1 c.in_err-stmt_fits-in-If.was (cc) refl)
    (cc)

pub act_fits-returns-in_ok-stmt_fits-in-If : goal.act_fits-returns-in_ok-stmt_fits-in-If
act_fits-returns-in_ok-stmt_fits-in-If t c =
    let items = c.args.items.now in
    let all = spots_of_act c.args.act.now c.args.mode in
    let k = parts_of_if c.in-If.e c.in-If.s c.in-If.otherwise c.args.mode in
    let more = spots_of_stmt c.in-If.s ++ spots_of_part c.in-If.otherwise in
    goes items (spots_of_expr c.in-If.e) more all _ c.expr_fits-in-If.result c.in_ok-expr_fits-in-If.was (cc)
    (goes items (spots_of_stmt c.in-If.s) (spots_of_part c.in-If.otherwise) more c.part_fits.result c.stmt_fits.result c.in_ok-stmt_fits-in-If.was (cc) (cc) refl)
    (cc)

pub act_fits-returns-in_err-part_fits-in-For : goal.act_fits-returns-in_err-part_fits-in-For
act_fits-returns-in_err-part_fits-in-For t c =
    let items = c.args.items.now in
    let all = spots_of_act c.args.act.now c.args.mode in
    let k = parts_of_for c.in-For.first c.in-For.e c.in-For.step c.in-For.body c.args.mode in
    let last = spots_of_stmt c.in-For.body ++ spots_of_part c.in-For.step in
    let more = spots_of_value c.in-For.e ++ last in
    stops items (spots_of_part c.in-For.first) more all _ c.part_fits-in-For.result _ c.from_residual-in_err-part_fits-in-For.ensures.1 c.in_err-part_fits-in-For.was (cc) (cc)

pub act_fits-returns-in_err-value_fits-in-For : goal.act_fits-returns-in_err-value_fits-in-For
act_fits-returns-in_err-value_fits-in-For t c =
    let items = c.args.items.now in
    let all = spots_of_act c.args.act.now c.args.mode in
    let k = parts_of_for c.in-For.first c.in-For.e c.in-For.step c.in-For.body c.args.mode in
    let last = spots_of_stmt c.in-For.body ++ spots_of_part c.in-For.step in
    let more = spots_of_value c.in-For.e ++ last in
    goes items (spots_of_part c.in-For.first) more all _ c.part_fits-in-For.result c.in_ok-part_fits-in-For.was (cc)
    (stops items (spots_of_value c.in-For.e) last more _ c.value_fits.result _ c.from_residual-in_err-value_fits-in-For.ensures.1 c.in_err-value_fits-in-For.was (cc) refl)
    (cc)

pub act_fits-returns-in_err-stmt_fits-in-For : goal.act_fits-returns-in_err-stmt_fits-in-For
act_fits-returns-in_err-stmt_fits-in-For t c =
    let items = c.args.items.now in
    let all = spots_of_act c.args.act.now c.args.mode in
    let k = parts_of_for c.in-For.first c.in-For.e c.in-For.step c.in-For.body c.args.mode in
    let last = spots_of_stmt c.in-For.body ++ spots_of_part c.in-For.step in
    let more = spots_of_value c.in-For.e ++ last in
    goes items (spots_of_part c.in-For.first) more all _ c.part_fits-in-For.result c.in_ok-part_fits-in-For.was (cc)
    (goes items (spots_of_value c.in-For.e) last more _ c.value_fits.result c.in_ok-value_fits-in-For.was (cc)
    (stops items (spots_of_stmt c.in-For.body) (spots_of_part c.in-For.step) last _ c.stmt_fits-in-For.result _ c.from_residual-in_err-stmt_fits-in-For.ensures.1 c.in_err-stmt_fits-in-For.was (cc) refl)
    refl)
    (cc)

pub act_fits-returns-in_ok-stmt_fits-in-For : goal.act_fits-returns-in_ok-stmt_fits-in-For
act_fits-returns-in_ok-stmt_fits-in-For t c =
    let items = c.args.items.now in
    let all = spots_of_act c.args.act.now c.args.mode in
    let k = parts_of_for c.in-For.first c.in-For.e c.in-For.step c.in-For.body c.args.mode in
    let last = spots_of_stmt c.in-For.body ++ spots_of_part c.in-For.step in
    let more = spots_of_value c.in-For.e ++ last in
    goes items (spots_of_part c.in-For.first) more all _ c.part_fits-in-For.result c.in_ok-part_fits-in-For.was (cc)
    (goes items (spots_of_value c.in-For.e) last more _ c.value_fits.result c.in_ok-value_fits-in-For.was (cc)
    (goes items (spots_of_stmt c.in-For.body) (spots_of_part c.in-For.step) last c.part_fits-in-For-2.result c.stmt_fits-in-For.result c.in_ok-stmt_fits-in-For.was (cc) (cc) refl)
    refl)
    (cc)

pub act_fits-returns-in-Block : goal.act_fits-returns-in-Block
act_fits-returns-in-Block t c =
    let e = ap (λ a. spots_of_act a c.args.mode) c.in-Block.is ∙ parts_of_block c.in-Block.field-0 c.in-Block.stmts c.args.mode ∙ ap (λ ss. flat_map spots_of_stmt ss) (sym c.as_slice.ensures) in
    c.stmts_fit.ensures ∙ ap (λ ss. verdict c.args.items.now ss) (sym e)

pub act_fits-returns-in-Bundle : goal.act_fits-returns-in-Bundle
act_fits-returns-in-Bundle t c =
    let e = ap (λ a. spots_of_act a c.args.mode) c.in-Bundle.is ∙ parts_of_bundle c.in-Bundle.stmts c.args.mode ∙ ap (λ ss. flat_map spots_of_stmt ss) (sym c.as_slice-in-Bundle.ensures) in
    c.stmts_fit-in-Bundle.ensures ∙ ap (λ ss. verdict c.args.items.now ss) (sym e)

pub stmts_fit-returns-in_err-stmt_fits : goal.stmts_fit-returns-in_err-stmt_fits
stmts_fit-returns-in_err-stmt_fits t c =
    loop_stops c.args.items.now spots_of_stmt c.args.stmts.now c.loop-stmt.stmt-index c.stmt-item.result _ _ _ c.loop-stmt-test.true c.stmt-item.is c.loop-stmt.invariant c.from_residual.ensures.1 c.in_err-stmt_fits.was c.stmt_fits.ensures

pub stmts_fit-loop-stmt-preserved : goal.stmts_fit-loop-stmt-preserved
stmts_fit-loop-stmt-preserved t c =
    loop_goes c.args.items.now spots_of_stmt c.args.stmts.now c.loop-stmt.stmt-index c.stmt-item.result _ c.loop-stmt-test.true c.stmt-item.is c.loop-stmt.invariant c.in_ok-stmt_fits.was c.stmt_fits.ensures
