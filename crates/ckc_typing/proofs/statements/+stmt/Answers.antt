use Rattle.std.proofs.Common.{◌∙◌, map, ap, sym, refl, true, Ok}
use Rattle.std.proofs.lemmas.Result.{err_from_is_err_and}
use Rattle.ckc_base.specs.Outcomes.{Outcome, bind, in_order}
use Rattle.ckc_typed.specs.Trees.{Stmt, NotedStmt}
use Rattle.ckc_typed.specs.Expressions.{value_typed}
use Rattle.ckc_typed.specs.Declarations.{local_typed}
use Rattle.ckc_typed.specs.Statements.{act_typed, stmt_typed, all_in}
use Rattle.ckc_base.proofs.Chains.{fails, goes, ends}
use Rattle.ckc_typing.proofs.Acts.{same_expr, assigned, assign_is, call_is, check_is, declared, for_is, if_is, local_is, while_is}
use Rattle.ckc_typing.proofs.Scopes.{in_scope}
use Rattle.ckc_base.proofs.Ends.{stops}
use Rattle.ckc_base.proofs.Turns.{begin, turn_fault, turn_done, turn_end}
use Rattle.ckc_typing.proofs.statements.+stmt.Goals as goal

pub typed_stmts-loop-s-init : goal.typed_stmts-loop-s-init
typed_stmts-loop-s-init t c =
    let f : Stmt → Outcome NotedStmt = λ s. stmt_typed c.args.globals.now c.args.frame.now.variables c.args.frame.now.result s c.args.mode c.args.looped in
    in_scope (stmt_typed c.args.globals.now c.args.frame.now.variables c.args.frame.now.result) c.args.mode c.args.looped c.args.ss.now
    ∙ begin (in_order (map f c.args.ss.now)) _ c.new-all.ensures

pub typed_stmts-returns-in_err-typed : goal.typed_stmts-returns-in_err-typed
typed_stmts-returns-in_err-typed t c =
    let f : Stmt → Outcome NotedStmt = λ s. stmt_typed c.args.globals.now c.args.frame.now.variables c.args.frame.now.result s c.args.mode c.args.looped in
    let p = err_from_is_err_and c.from_residual.result c.from_residual.ensures.1 in
    stops (f c.s-item.result) (all_in c.args.mode c.args.looped (map (stmt_typed c.args.globals.now c.args.frame.now.variables c.args.frame.now.result) c.args.ss.now)) c.from_residual.result p.0 c.in_err-typed.field-0.0 p.1 p.2 c.in_err-typed.ensures
    (turn_fault f c.args.ss.now c.loop-s.s-index _ _ c.loop-s.invariant c.s-item.result c.loop-s-test.true c.s-item.is)

pub typed_stmts-loop-s-preserved : goal.typed_stmts-loop-s-preserved
typed_stmts-loop-s-preserved t c =
    let f : Stmt → Outcome NotedStmt = λ s. stmt_typed c.args.globals.now c.args.frame.now.variables c.args.frame.now.result s c.args.mode c.args.looped in
    turn_done f c.args.ss.now c.loop-s.s-index _ _ c.loop-s.invariant c.s-item.result c.in_ok-typed.typed _ c.loop-s-test.true c.s-item.is c.in_ok-typed.ensures c.in_ok-push.ensures.ok

pub typed_stmts-returns : goal.typed_stmts-returns
typed_stmts-returns t c =
    let f : Stmt → Outcome NotedStmt = λ s. stmt_typed c.args.globals.now c.args.frame.now.variables c.args.frame.now.result s c.args.mode c.args.looped in
    turn_end f c.args.ss.now c.loop-s.s-index _ _ c.loop-s.invariant c.loop-s-test.false

pub typed_act-returns-in-Local : goal.typed_act-returns-in-Local
typed_act-returns-in-Local t c =
    let whole = ap (λ b. act_typed c.args.globals.now c.args.frame.now.variables c.args.frame.now.result b c.args.mode c.args.looped c.args.pos) c.in-Local.is ∙ local_is c.args.globals.now c.args.frame.now.variables c.args.frame.now.result c.args.mode c.args.looped c.args.pos c.in-Local.d in
    ends _ _ _ (whole ∙ ap (λ d. bind (local_typed c.args.globals.now c.args.frame.now.variables c.args.mode d) (declared c.args.globals.now c.args.frame.now.variables c.args.frame.now.result c.args.mode c.args.looped c.args.pos)) (sym c.get.ensures)) c.boxed_local.ensures

pub typed_act-returns-in_err-e-in-Assign : goal.typed_act-returns-in_err-e-in-Assign
typed_act-returns-in_err-e-in-Assign t c =
    let whole = ap (λ b. act_typed c.args.globals.now c.args.frame.now.variables c.args.frame.now.result b c.args.mode c.args.looped c.args.pos) c.in-Assign.is ∙ assign_is c.args.globals.now c.args.frame.now.variables c.args.frame.now.result c.args.mode c.args.looped c.args.pos c.in-Assign.e c.in-Assign.f in
    let p = err_from_is_err_and c.from_residual-in_err-e-in-Assign.result c.from_residual-in_err-e-in-Assign.ensures.1 in
    fails _ _ _ _ c.from_residual-in_err-e-in-Assign.result p.0 c.in_err-e-in-Assign.field-0.0 whole (same_expr c.args.globals.now c.args.mode c.args.frame.now.variables c.as_slice-variables.result.now c.in-Assign.e c.get-in-Assign.result.now c.as_slice-variables.ensures c.get-in-Assign.ensures) p.1 p.2 c.in_err-e-in-Assign.ensures

pub typed_act-returns-in_err-f-in-Assign : goal.typed_act-returns-in_err-f-in-Assign
typed_act-returns-in_err-f-in-Assign t c =
    let whole = ap (λ b. act_typed c.args.globals.now c.args.frame.now.variables c.args.frame.now.result b c.args.mode c.args.looped c.args.pos) c.in-Assign.is ∙ assign_is c.args.globals.now c.args.frame.now.variables c.args.frame.now.result c.args.mode c.args.looped c.args.pos c.in-Assign.e c.in-Assign.f in
    let target = goes _ _ _ _ _ whole (same_expr c.args.globals.now c.args.mode c.args.frame.now.variables c.as_slice-variables.result.now c.in-Assign.e c.get-in-Assign.result.now c.as_slice-variables.ensures c.get-in-Assign.ensures) c.in_ok-e-in-Assign.ensures in
    let p = err_from_is_err_and c.from_residual-in_err-f-in-Assign.result c.from_residual-in_err-f-in-Assign.ensures.1 in
    fails _ _ _ _ c.from_residual-in_err-f-in-Assign.result p.0 c.in_err-f-in-Assign.field-0.0 target (same_expr c.args.globals.now c.args.mode c.args.frame.now.variables c.as_slice-variables.result.now c.in-Assign.f c.get-in-Assign-2.result.now c.as_slice-variables.ensures c.get-in-Assign-2.ensures) p.1 p.2 c.in_err-f-in-Assign.ensures

pub typed_act-returns-in_ok-f-in-Assign : goal.typed_act-returns-in_ok-f-in-Assign
typed_act-returns-in_ok-f-in-Assign t c =
    let whole = ap (λ b. act_typed c.args.globals.now c.args.frame.now.variables c.args.frame.now.result b c.args.mode c.args.looped c.args.pos) c.in-Assign.is ∙ assign_is c.args.globals.now c.args.frame.now.variables c.args.frame.now.result c.args.mode c.args.looped c.args.pos c.in-Assign.e c.in-Assign.f in
    let target = goes _ _ _ _ _ whole (same_expr c.args.globals.now c.args.mode c.args.frame.now.variables c.as_slice-variables.result.now c.in-Assign.e c.get-in-Assign.result.now c.as_slice-variables.ensures c.get-in-Assign.ensures) c.in_ok-e-in-Assign.ensures in
    let both = goes _ _ _ _ _ target (same_expr c.args.globals.now c.args.mode c.args.frame.now.variables c.as_slice-variables.result.now c.in-Assign.f c.get-in-Assign-2.result.now c.as_slice-variables.ensures c.get-in-Assign-2.ensures) c.in_ok-f-in-Assign.ensures in
    ends _ _ _ (both ∙ ap (λ vs. assigned c.args.globals.now vs c.args.frame.now.result c.args.mode c.args.looped c.args.pos c.in_ok-e-in-Assign.e c.in_ok-f-in-Assign.f) (sym c.as_slice-variables.ensures)) c.assignment.ensures

pub typed_act-returns-in_err-e-in-Call : goal.typed_act-returns-in_err-e-in-Call
typed_act-returns-in_err-e-in-Call t c =
    let whole = ap (λ b. act_typed c.args.globals.now c.args.frame.now.variables c.args.frame.now.result b c.args.mode c.args.looped c.args.pos) c.in-Call.is ∙ call_is c.args.globals.now c.args.frame.now.variables c.args.frame.now.result c.args.mode c.args.looped c.args.pos c.in-Call.e in
    let p = err_from_is_err_and c.from_residual-in_err-e-in-Call.result c.from_residual-in_err-e-in-Call.ensures.1 in
    fails _ _ _ _ c.from_residual-in_err-e-in-Call.result p.0 c.in_err-e-in-Call.field-0.0 whole (same_expr c.args.globals.now c.args.mode c.args.frame.now.variables c.as_slice-variables.result.now c.in-Call.e c.get-in-Call.result.now c.as_slice-variables.ensures c.get-in-Call.ensures) p.1 p.2 c.in_err-e-in-Call.ensures

pub typed_act-returns-in_ok-e-in-Call : goal.typed_act-returns-in_ok-e-in-Call
typed_act-returns-in_ok-e-in-Call t c =
    let whole = ap (λ b. act_typed c.args.globals.now c.args.frame.now.variables c.args.frame.now.result b c.args.mode c.args.looped c.args.pos) c.in-Call.is ∙ call_is c.args.globals.now c.args.frame.now.variables c.args.frame.now.result c.args.mode c.args.looped c.args.pos c.in-Call.e in
    let judged = goes _ _ _ _ _ whole (same_expr c.args.globals.now c.args.mode c.args.frame.now.variables c.as_slice-variables.result.now c.in-Call.e c.get-in-Call.result.now c.as_slice-variables.ensures c.get-in-Call.ensures) c.in_ok-e-in-Call.ensures in
    judged ∙ ap (λ s. Ok s) (sym c.stated-in-Call.ensures)

pub typed_act-returns-in_err-e-in-If : goal.typed_act-returns-in_err-e-in-If
typed_act-returns-in_err-e-in-If t c =
    let whole = ap (λ b. act_typed c.args.globals.now c.args.frame.now.variables c.args.frame.now.result b c.args.mode c.args.looped c.args.pos) c.in-If.is ∙ if_is c.args.globals.now c.args.frame.now.variables c.args.frame.now.result c.args.mode c.args.looped c.args.pos c.in-If.e c.in-If.s c.in-If.t in
    let p = err_from_is_err_and c.from_residual-in_err-e-in-If.result c.from_residual-in_err-e-in-If.ensures.1 in
    fails _ _ _ _ c.from_residual-in_err-e-in-If.result p.0 c.in_err-e-in-If.field-0.0 whole (same_expr c.args.globals.now c.args.mode c.args.frame.now.variables c.as_slice-variables.result.now c.in-If.e c.get-in-If.result.now c.as_slice-variables.ensures c.get-in-If.ensures) p.1 p.2 c.in_err-e-in-If.ensures

pub typed_act-returns-in_err-s-in-If : goal.typed_act-returns-in_err-s-in-If
typed_act-returns-in_err-s-in-If t c =
    let whole = ap (λ b. act_typed c.args.globals.now c.args.frame.now.variables c.args.frame.now.result b c.args.mode c.args.looped c.args.pos) c.in-If.is ∙ if_is c.args.globals.now c.args.frame.now.variables c.args.frame.now.result c.args.mode c.args.looped c.args.pos c.in-If.e c.in-If.s c.in-If.t in
    let condition = goes _ _ _ _ _ whole (same_expr c.args.globals.now c.args.mode c.args.frame.now.variables c.as_slice-variables.result.now c.in-If.e c.get-in-If.result.now c.as_slice-variables.ensures c.get-in-If.ensures) c.in_ok-e-in-If.ensures in
    let p = err_from_is_err_and c.from_residual-in_err-s-in-If.result c.from_residual-in_err-s-in-If.ensures.1 in
    fails _ _ _ _ c.from_residual-in_err-s-in-If.result p.0 c.in_err-s-in-If.field-0.0 condition (ap (λ s. stmt_typed c.args.globals.now c.args.frame.now.variables c.args.frame.now.result s c.args.mode c.args.looped) (sym c.get-in-If-2.ensures)) p.1 p.2 c.in_err-s-in-If.ensures

pub typed_act-returns-in_err-other-in-If : goal.typed_act-returns-in_err-other-in-If
typed_act-returns-in_err-other-in-If t c =
    let whole = ap (λ b. act_typed c.args.globals.now c.args.frame.now.variables c.args.frame.now.result b c.args.mode c.args.looped c.args.pos) c.in-If.is ∙ if_is c.args.globals.now c.args.frame.now.variables c.args.frame.now.result c.args.mode c.args.looped c.args.pos c.in-If.e c.in-If.s c.in-If.t in
    let condition = goes _ _ _ _ _ whole (same_expr c.args.globals.now c.args.mode c.args.frame.now.variables c.as_slice-variables.result.now c.in-If.e c.get-in-If.result.now c.as_slice-variables.ensures c.get-in-If.ensures) c.in_ok-e-in-If.ensures in
    let branch = goes _ _ _ _ _ condition (ap (λ s. stmt_typed c.args.globals.now c.args.frame.now.variables c.args.frame.now.result s c.args.mode c.args.looped) (sym c.get-in-If-2.ensures)) c.in_ok-s-in-If.ensures in
    let p = err_from_is_err_and c.from_residual-in_err-other-in-If.result c.from_residual-in_err-other-in-If.ensures.1 in
    fails _ _ _ _ c.from_residual-in_err-other-in-If.result p.0 c.in_err-other-in-If.field-0.0 branch refl p.1 p.2 c.in_err-other-in-If.ensures

pub typed_act-returns-in_ok-other-in-If : goal.typed_act-returns-in_ok-other-in-If
typed_act-returns-in_ok-other-in-If t c =
    let whole = ap (λ b. act_typed c.args.globals.now c.args.frame.now.variables c.args.frame.now.result b c.args.mode c.args.looped c.args.pos) c.in-If.is ∙ if_is c.args.globals.now c.args.frame.now.variables c.args.frame.now.result c.args.mode c.args.looped c.args.pos c.in-If.e c.in-If.s c.in-If.t in
    let condition = goes _ _ _ _ _ whole (same_expr c.args.globals.now c.args.mode c.args.frame.now.variables c.as_slice-variables.result.now c.in-If.e c.get-in-If.result.now c.as_slice-variables.ensures c.get-in-If.ensures) c.in_ok-e-in-If.ensures in
    let branch = goes _ _ _ _ _ condition (ap (λ s. stmt_typed c.args.globals.now c.args.frame.now.variables c.args.frame.now.result s c.args.mode c.args.looped) (sym c.get-in-If-2.ensures)) c.in_ok-s-in-If.ensures in
    let both = goes _ _ _ _ _ branch refl c.in_ok-other-in-If.ensures in
    ends _ _ _ both c.branches.ensures

pub typed_act-returns-in_err-e-in-While : goal.typed_act-returns-in_err-e-in-While
typed_act-returns-in_err-e-in-While t c =
    let whole = ap (λ b. act_typed c.args.globals.now c.args.frame.now.variables c.args.frame.now.result b c.args.mode c.args.looped c.args.pos) c.in-While.is ∙ while_is c.args.globals.now c.args.frame.now.variables c.args.frame.now.result c.args.mode c.args.looped c.args.pos c.in-While.e c.in-While.s in
    let p = err_from_is_err_and c.from_residual-in_err-e-in-While.result c.from_residual-in_err-e-in-While.ensures.1 in
    fails _ _ _ _ c.from_residual-in_err-e-in-While.result p.0 c.in_err-e-in-While.field-0.0 whole (same_expr c.args.globals.now c.args.mode c.args.frame.now.variables c.as_slice-variables.result.now c.in-While.e c.get-in-While.result.now c.as_slice-variables.ensures c.get-in-While.ensures) p.1 p.2 c.in_err-e-in-While.ensures

pub typed_act-returns-in_err-s-in-While : goal.typed_act-returns-in_err-s-in-While
typed_act-returns-in_err-s-in-While t c =
    let whole = ap (λ b. act_typed c.args.globals.now c.args.frame.now.variables c.args.frame.now.result b c.args.mode c.args.looped c.args.pos) c.in-While.is ∙ while_is c.args.globals.now c.args.frame.now.variables c.args.frame.now.result c.args.mode c.args.looped c.args.pos c.in-While.e c.in-While.s in
    let condition = goes _ _ _ _ _ whole (same_expr c.args.globals.now c.args.mode c.args.frame.now.variables c.as_slice-variables.result.now c.in-While.e c.get-in-While.result.now c.as_slice-variables.ensures c.get-in-While.ensures) c.in_ok-e-in-While.ensures in
    let p = err_from_is_err_and c.from_residual-in_err-s-in-While.result c.from_residual-in_err-s-in-While.ensures.1 in
    fails _ _ _ _ c.from_residual-in_err-s-in-While.result p.0 c.in_err-s-in-While.field-0.0 condition (ap (λ s. stmt_typed c.args.globals.now c.args.frame.now.variables c.args.frame.now.result s c.args.mode true) (sym c.get-in-While-2.ensures)) p.1 p.2 c.in_err-s-in-While.ensures

pub typed_act-returns-in_ok-s-in-While : goal.typed_act-returns-in_ok-s-in-While
typed_act-returns-in_ok-s-in-While t c =
    let whole = ap (λ b. act_typed c.args.globals.now c.args.frame.now.variables c.args.frame.now.result b c.args.mode c.args.looped c.args.pos) c.in-While.is ∙ while_is c.args.globals.now c.args.frame.now.variables c.args.frame.now.result c.args.mode c.args.looped c.args.pos c.in-While.e c.in-While.s in
    let condition = goes _ _ _ _ _ whole (same_expr c.args.globals.now c.args.mode c.args.frame.now.variables c.as_slice-variables.result.now c.in-While.e c.get-in-While.result.now c.as_slice-variables.ensures c.get-in-While.ensures) c.in_ok-e-in-While.ensures in
    let repeated = goes _ _ _ _ _ condition (ap (λ s. stmt_typed c.args.globals.now c.args.frame.now.variables c.args.frame.now.result s c.args.mode true) (sym c.get-in-While-2.ensures)) c.in_ok-s-in-While.ensures in
    ends _ _ _ repeated c.repetition.ensures

pub typed_act-returns-in_ok-step-in-For : goal.typed_act-returns-in_ok-step-in-For
typed_act-returns-in_ok-step-in-For t c =
    let whole = ap (λ b. act_typed c.args.globals.now c.args.frame.now.variables c.args.frame.now.result b c.args.mode c.args.looped c.args.pos) c.in-For.is ∙ for_is c.args.globals.now c.args.frame.now.variables c.args.frame.now.result c.args.mode c.args.looped c.args.pos c.in-For.s c.in-For.e c.in-For.t c.in-For.body in
    let start = goes _ _ _ _ _ whole refl c.in_ok-start-in-For.ensures in
    let condition = goes _ _ _ _ _ start (ap (λ vs. value_typed c.args.globals.now vs c.args.mode c.in-For.e) (sym c.as_slice-variables.ensures)) c.in_ok-e-in-For.ensures in
    let repeated = goes _ _ _ _ _ condition (ap (λ s. stmt_typed c.args.globals.now c.args.frame.now.variables c.args.frame.now.result s c.args.mode true) (sym c.get-in-For.ensures)) c.in_ok-body-in-For.ensures in
    let step = goes _ _ _ _ _ repeated refl c.in_ok-step-in-For.ensures in
    ends _ _ _ step c.counting.ensures

pub typed_act-returns-in_err-e-in-Check : goal.typed_act-returns-in_err-e-in-Check
typed_act-returns-in_err-e-in-Check t c =
    let whole = ap (λ b. act_typed c.args.globals.now c.args.frame.now.variables c.args.frame.now.result b c.args.mode c.args.looped c.args.pos) c.in-Check.is ∙ check_is c.args.globals.now c.args.frame.now.variables c.args.frame.now.result c.args.mode c.args.looped c.args.pos c.in-Check.e in
    let p = err_from_is_err_and c.from_residual-in_err-e-in-Check.result c.from_residual-in_err-e-in-Check.ensures.1 in
    fails _ _ _ _ c.from_residual-in_err-e-in-Check.result p.0 c.in_err-e-in-Check.field-0.0 whole (same_expr c.args.globals.now c.args.mode c.args.frame.now.variables c.as_slice-variables.result.now c.in-Check.e c.get-in-Check.result.now c.as_slice-variables.ensures c.get-in-Check.ensures) p.1 p.2 c.in_err-e-in-Check.ensures

pub typed_act-returns-in_ok-e-in-Check : goal.typed_act-returns-in_ok-e-in-Check
typed_act-returns-in_ok-e-in-Check t c =
    let whole = ap (λ b. act_typed c.args.globals.now c.args.frame.now.variables c.args.frame.now.result b c.args.mode c.args.looped c.args.pos) c.in-Check.is ∙ check_is c.args.globals.now c.args.frame.now.variables c.args.frame.now.result c.args.mode c.args.looped c.args.pos c.in-Check.e in
    let judged = goes _ _ _ _ _ whole (same_expr c.args.globals.now c.args.mode c.args.frame.now.variables c.as_slice-variables.result.now c.in-Check.e c.get-in-Check.result.now c.as_slice-variables.ensures c.get-in-Check.ensures) c.in_ok-e-in-Check.ensures in
    ends _ _ _ judged c.check.ensures
