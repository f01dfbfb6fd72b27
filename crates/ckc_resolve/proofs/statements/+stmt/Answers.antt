use Rattle.std.proofs.Common.{refl, sym, ap, ◌∙◌}
use Rattle.ckc_syntax.specs.declared.tree.Act.{Act-F}
use Rattle.ckc_syntax.specs.declared.tree.Act.TheVariants as act
use Rattle.ckc_resolve.specs.Expressions.{expr_named, maybe_named}
use Rattle.ckc_base.proofs.Ends.{part_halts, step_halts}
use Rattle.ckc_resolve.proofs.StatementParts.{act_by, stmt_by, if_by, for_by}
use Rattle.ckc_resolve.specs.Statements.{act_named, stmt_named, stmts_named, part_named}
use Rattle.ckc_base.proofs.Sequels.{begin, turn_stops, turn_done, turn_end}
use Rattle.ckc_resolve.proofs.statements.+stmt.Goals as goal

pub named_stmts-loop-stmt-init : goal.named_stmts-loop-stmt-init
named_stmts-loop-stmt-init t c = begin (stmts_named c.args.names.now c.args.stmts.now c.args.scopes.now) _ c.new-all.ensures

pub named_stmts-returns-in_err-named : goal.named_stmts-returns-in_err-named
named_stmts-returns-in_err-named t c =
    turn_stops (stmt_named c.args.names.now) c.args.stmts.now c.loop-stmt.stmt-index c.loop-stmt.scopes _ _ c.loop-stmt.invariant c.stmt-item.result c.loop-stmt-test.true c.stmt-item.is _ _ c.from_residual.result c.in_err-named.field-0.0 c.from_residual.ensures.1 c.in_err-named.ensures

pub named_stmts-loop-stmt-preserved : goal.named_stmts-loop-stmt-preserved
named_stmts-loop-stmt-preserved t c =
    turn_done (stmt_named c.args.names.now) c.args.stmts.now c.loop-stmt.stmt-index c.loop-stmt.scopes _ _ c.loop-stmt.invariant c.stmt-item.result c.in_ok-named.named _ _ c.loop-stmt-test.true c.stmt-item.is c.in_ok-named.ensures c.in_ok-push.ensures.ok

pub named_stmts-returns : goal.named_stmts-returns
named_stmts-returns t c = turn_end (stmt_named c.args.names.now) c.args.stmts.now c.loop-stmt.stmt-index _ _ _ c.loop-stmt.invariant c.loop-stmt-test.false

pub boxed_stmt-returns-in_err-named : goal.boxed_stmt-returns-in_err-named
boxed_stmt-returns-in_err-named t c =
    step_halts (stmt_named c.args.names.now c.args.stmt.now c.args.scopes.now) c.named_stmt.new.scopes (stmt_named c.args.names.now c.args.stmt.now c.args.scopes.now) c.named_stmt.new.scopes c.from_residual.result c.in_err-named.field-0.0 c.from_residual.ensures.1 c.in_err-named.ensures (λ f q. q)

pub named_stmt-returns-in_err-body : goal.named_stmt-returns-in_err-body
named_stmt-returns-in_err-body t c =
    step_halts (act_named c.args.names.now c.args.stmt.now.body c.args.scopes.now) c.named_act.new.scopes (stmt_named c.args.names.now c.args.stmt.now c.args.scopes.now) c.named_act.new.scopes c.from_residual.result c.in_err-body.field-0.0 c.from_residual.ensures.1 c.in_err-body.ensures (λ f q. rw (stmt_by c.args.names.now c.args.stmt.now c.args.scopes.now, q) refl)

pub named_stmt-returns : goal.named_stmt-returns
named_stmt-returns t c =
    rw (stmt_by c.args.names.now c.args.stmt.now c.args.scopes.now, c.in_ok-body.ensures) refl

pub named_part-returns-in_err-named-in-Some : goal.named_part-returns-in_err-named-in-Some
named_part-returns-in_err-named-in-Some t c =
    step_halts (stmt_named c.args.names.now c.get.result.now c.args.scopes.now) c.boxed_stmt.new.scopes (part_named c.args.names.now c.args.part.now c.args.scopes.now) c.boxed_stmt.new.scopes c.from_residual.result c.in_err-named-in-Some.field-0.0 c.from_residual.ensures.1 c.in_err-named-in-Some.ensures (λ f q. rw (c.in-Some.is, ← c.get.ensures, q) refl)

pub named_part-returns-in-None : goal.named_part-returns-in-None
named_part-returns-in-None t c =
    ap (λ p. part_named c.args.names.now p c.args.scopes.now) c.in-None.is

pub named_part-returns-in_ok-named-in-Some : goal.named_part-returns-in_ok-named-in-Some
named_part-returns-in_ok-named-in-Some t c =
    rw (c.in-Some.is, ← c.get.ensures, c.in_ok-named-in-Some.ensures) refl

pub named_act-returns-in-Empty : goal.named_act-returns-in-Empty
named_act-returns-in-Empty t c =
    act_by c.args.names.now c.args.act.now c.args.scopes.now Act-F.Empty (c.in-Empty.is ∙ sym act.rolls-Empty)

pub named_act-returns-in-Break : goal.named_act-returns-in-Break
named_act-returns-in-Break t c =
    act_by c.args.names.now c.args.act.now c.args.scopes.now Act-F.Break (c.in-Break.is ∙ sym act.rolls-Break)

pub named_act-returns-in-Continue : goal.named_act-returns-in-Continue
named_act-returns-in-Continue t c =
    act_by c.args.names.now c.args.act.now c.args.scopes.now Act-F.Continue (c.in-Continue.is ∙ sym act.rolls-Continue)

pub named_act-returns-in-Local : goal.named_act-returns-in-Local
named_act-returns-in-Local t c =
    rw (act_by c.args.names.now c.args.act.now c.args.scopes.now (Act-F.Local c.in-Local.decl) (c.in-Local.is ∙ sym (act.rolls-Local c.in-Local.decl))) c.local.ensures

pub named_act-returns-in-Call : goal.named_act-returns-in-Call
named_act-returns-in-Call t c =
    rw (act_by c.args.names.now c.args.act.now c.args.scopes.now (Act-F.Call c.in-Call.e) (c.in-Call.is ∙ sym (act.rolls-Call c.in-Call.e))) c.call.ensures

pub named_act-returns-in-Return : goal.named_act-returns-in-Return
named_act-returns-in-Return t c =
    rw (act_by c.args.names.now c.args.act.now c.args.scopes.now (Act-F.Return c.in-Return.e) (c.in-Return.is ∙ sym (act.rolls-Return c.in-Return.e))) c.result.ensures

pub named_act-returns-in-Check : goal.named_act-returns-in-Check
named_act-returns-in-Check t c =
    rw (act_by c.args.names.now c.args.act.now c.args.scopes.now (Act-F.Check c.in-Check.e) (c.in-Check.is ∙ sym (act.rolls-Check c.in-Check.e))) c.check.ensures

pub named_act-returns-in_err-stmts-in-Block : goal.named_act-returns-in_err-stmts-in-Block
named_act-returns-in_err-stmts-in-Block t c =
    step_halts (stmts_named c.args.names.now c.as_slice.result.now c.open-mark.new.self) c.named_stmts.new.scopes (act_named c.args.names.now c.args.act.now c.args.scopes.now) c.named_stmts.new.scopes c.from_residual.result c.in_err-stmts-in-Block.field-0.0 c.from_residual.ensures.1 c.in_err-stmts-in-Block.ensures (λ f q. rw (act_by c.args.names.now c.args.act.now c.args.scopes.now (Act-F.Block c.in-Block.mode c.in-Block.stmts) (c.in-Block.is ∙ sym (act.rolls-Block c.in-Block.mode c.in-Block.stmts)), ← c.open-mark.ensures.opened, ← c.as_slice.ensures, q) refl)

pub named_act-returns-in_ok-stmts-in-Block : goal.named_act-returns-in_ok-stmts-in-Block
named_act-returns-in_ok-stmts-in-Block t c =
    rw (act_by c.args.names.now c.args.act.now c.args.scopes.now (Act-F.Block c.in-Block.mode c.in-Block.stmts) (c.in-Block.is ∙ sym (act.rolls-Block c.in-Block.mode c.in-Block.stmts)), ← c.open-mark.ensures.opened, ← c.as_slice.ensures, c.in_ok-stmts-in-Block.ensures, c.close.ensures c.args.scopes.now c.open-mark.ensures.len c.open-mark.ensures.base) refl

pub named_act-returns-in_err-stmts-in-Bundle : goal.named_act-returns-in_err-stmts-in-Bundle
named_act-returns-in_err-stmts-in-Bundle t c =
    step_halts (stmts_named c.args.names.now c.as_slice-in-Bundle.result.now c.args.scopes.now) c.named_stmts-in-Bundle.new.scopes (act_named c.args.names.now c.args.act.now c.args.scopes.now) c.named_stmts-in-Bundle.new.scopes c.from_residual-in_err-stmts-in-Bundle.result c.in_err-stmts-in-Bundle.field-0.0 c.from_residual-in_err-stmts-in-Bundle.ensures.1 c.in_err-stmts-in-Bundle.ensures (λ f q. rw (act_by c.args.names.now c.args.act.now c.args.scopes.now (Act-F.Bundle c.in-Bundle.stmts) (c.in-Bundle.is ∙ sym (act.rolls-Bundle c.in-Bundle.stmts)), ← c.as_slice-in-Bundle.ensures, q) refl)

pub named_act-returns-in_ok-stmts-in-Bundle : goal.named_act-returns-in_ok-stmts-in-Bundle
named_act-returns-in_ok-stmts-in-Bundle t c =
    rw (act_by c.args.names.now c.args.act.now c.args.scopes.now (Act-F.Bundle c.in-Bundle.stmts) (c.in-Bundle.is ∙ sym (act.rolls-Bundle c.in-Bundle.stmts)), ← c.as_slice-in-Bundle.ensures, c.in_ok-stmts-in-Bundle.ensures) refl

pub named_act-returns-in_err-target-in-Assign : goal.named_act-returns-in_err-target-in-Assign
named_act-returns-in_err-target-in-Assign t c =
    part_halts (expr_named c.args.names.now c.args.scopes.now c.get.result.now) (act_named c.args.names.now c.args.act.now c.args.scopes.now) c.args.scopes.now c.from_residual-in_err-target-in-Assign.result c.in_err-target-in-Assign.field-0.0 c.from_residual-in_err-target-in-Assign.ensures.1 c.in_err-target-in-Assign.ensures (λ f q. rw (act_by c.args.names.now c.args.act.now c.args.scopes.now (Act-F.Assign c.in-Assign.e c.in-Assign.f) (c.in-Assign.is ∙ sym (act.rolls-Assign c.in-Assign.e c.in-Assign.f)), ← c.get.ensures, q) refl)

pub named_act-returns-in_err-value-in-Assign : goal.named_act-returns-in_err-value-in-Assign
named_act-returns-in_err-value-in-Assign t c =
    part_halts (expr_named c.args.names.now c.args.scopes.now c.get-in-Assign.result.now) (act_named c.args.names.now c.args.act.now c.args.scopes.now) c.args.scopes.now c.from_residual-in_err-value-in-Assign.result c.in_err-value-in-Assign.field-0.0 c.from_residual-in_err-value-in-Assign.ensures.1 c.in_err-value-in-Assign.ensures (λ f q. rw (act_by c.args.names.now c.args.act.now c.args.scopes.now (Act-F.Assign c.in-Assign.e c.in-Assign.f) (c.in-Assign.is ∙ sym (act.rolls-Assign c.in-Assign.e c.in-Assign.f)), ← c.get.ensures, c.in_ok-target-in-Assign.ensures, ← c.get-in-Assign.ensures, q) refl)

pub named_act-returns-in_ok-value-in-Assign : goal.named_act-returns-in_ok-value-in-Assign
named_act-returns-in_ok-value-in-Assign t c =
    rw (act_by c.args.names.now c.args.act.now c.args.scopes.now (Act-F.Assign c.in-Assign.e c.in-Assign.f) (c.in-Assign.is ∙ sym (act.rolls-Assign c.in-Assign.e c.in-Assign.f)), ← c.get.ensures, c.in_ok-target-in-Assign.ensures, ← c.get-in-Assign.ensures, c.in_ok-value-in-Assign.ensures) refl

pub named_act-returns-in_err-condition-in-If : goal.named_act-returns-in_err-condition-in-If
named_act-returns-in_err-condition-in-If t c =
    part_halts (expr_named c.args.names.now c.args.scopes.now c.get-in-If.result.now) (act_named c.args.names.now c.args.act.now c.args.scopes.now) c.args.scopes.now c.from_residual-in_err-condition-in-If.result c.in_err-condition-in-If.field-0.0 c.from_residual-in_err-condition-in-If.ensures.1 c.in_err-condition-in-If.ensures (λ f q. rw (if_by c.args.names.now c.args.act.now c.args.scopes.now c.in-If.e c.in-If.s c.in-If.t c.in-If.is, ← c.get-in-If.ensures, q) refl)

pub named_act-returns-in_err-then-in-If : goal.named_act-returns-in_err-then-in-If
named_act-returns-in_err-then-in-If t c =
    step_halts (stmt_named c.args.names.now c.get-in-If-2.result.now c.args.scopes.now) c.boxed_stmt.new.scopes (act_named c.args.names.now c.args.act.now c.args.scopes.now) c.boxed_stmt.new.scopes c.from_residual-in_err-then-in-If.result c.in_err-then-in-If.field-0.0 c.from_residual-in_err-then-in-If.ensures.1 c.in_err-then-in-If.ensures (λ f q. rw (if_by c.args.names.now c.args.act.now c.args.scopes.now c.in-If.e c.in-If.s c.in-If.t c.in-If.is, ← c.get-in-If.ensures, c.in_ok-condition-in-If.ensures, ← c.get-in-If-2.ensures, q) refl)

pub named_act-returns-in_err-otherwise-in-If : goal.named_act-returns-in_err-otherwise-in-If
named_act-returns-in_err-otherwise-in-If t c =
    step_halts (part_named c.args.names.now c.in-If.t c.boxed_stmt.new.scopes) c.named_part.new.scopes (act_named c.args.names.now c.args.act.now c.args.scopes.now) c.named_part.new.scopes c.from_residual-in_err-otherwise-in-If.result c.in_err-otherwise-in-If.field-0.0 c.from_residual-in_err-otherwise-in-If.ensures.1 c.in_err-otherwise-in-If.ensures (λ f q. rw (if_by c.args.names.now c.args.act.now c.args.scopes.now c.in-If.e c.in-If.s c.in-If.t c.in-If.is, ← c.get-in-If.ensures, c.in_ok-condition-in-If.ensures, ← c.get-in-If-2.ensures, c.in_ok-then-in-If.ensures, q) refl)

pub named_act-returns-in_ok-otherwise-in-If : goal.named_act-returns-in_ok-otherwise-in-If
named_act-returns-in_ok-otherwise-in-If t c =
    rw (if_by c.args.names.now c.args.act.now c.args.scopes.now c.in-If.e c.in-If.s c.in-If.t c.in-If.is, ← c.get-in-If.ensures, c.in_ok-condition-in-If.ensures, ← c.get-in-If-2.ensures, c.in_ok-then-in-If.ensures, c.in_ok-otherwise-in-If.ensures) refl

pub named_act-returns-in_err-condition-in-While : goal.named_act-returns-in_err-condition-in-While
named_act-returns-in_err-condition-in-While t c =
    part_halts (expr_named c.args.names.now c.args.scopes.now c.get-in-While.result.now) (act_named c.args.names.now c.args.act.now c.args.scopes.now) c.args.scopes.now c.from_residual-in_err-condition-in-While.result c.in_err-condition-in-While.field-0.0 c.from_residual-in_err-condition-in-While.ensures.1 c.in_err-condition-in-While.ensures (λ f q. rw (act_by c.args.names.now c.args.act.now c.args.scopes.now (Act-F.While c.in-While.e c.in-While.s) (c.in-While.is ∙ sym (act.rolls-While c.in-While.e c.in-While.s)), ← c.get-in-While.ensures, q) refl)

pub named_act-returns-in_err-body-in-While : goal.named_act-returns-in_err-body-in-While
named_act-returns-in_err-body-in-While t c =
    step_halts (stmt_named c.args.names.now c.get-in-While-2.result.now c.args.scopes.now) c.boxed_stmt-in-While.new.scopes (act_named c.args.names.now c.args.act.now c.args.scopes.now) c.boxed_stmt-in-While.new.scopes c.from_residual-in_err-body-in-While.result c.in_err-body-in-While.field-0.0 c.from_residual-in_err-body-in-While.ensures.1 c.in_err-body-in-While.ensures (λ f q. rw (act_by c.args.names.now c.args.act.now c.args.scopes.now (Act-F.While c.in-While.e c.in-While.s) (c.in-While.is ∙ sym (act.rolls-While c.in-While.e c.in-While.s)), ← c.get-in-While.ensures, c.in_ok-condition-in-While.ensures, ← c.get-in-While-2.ensures, q) refl)

pub named_act-returns-in_ok-body-in-While : goal.named_act-returns-in_ok-body-in-While
named_act-returns-in_ok-body-in-While t c =
    rw (act_by c.args.names.now c.args.act.now c.args.scopes.now (Act-F.While c.in-While.e c.in-While.s) (c.in-While.is ∙ sym (act.rolls-While c.in-While.e c.in-While.s)), ← c.get-in-While.ensures, c.in_ok-condition-in-While.ensures, ← c.get-in-While-2.ensures, c.in_ok-body-in-While.ensures) refl

pub named_act-returns-in_err-first-in-For : goal.named_act-returns-in_err-first-in-For
named_act-returns-in_err-first-in-For t c =
    step_halts (part_named c.args.names.now c.in-For.first c.open-mark-in-For.new.self) c.named_part-in-For.new.scopes (act_named c.args.names.now c.args.act.now c.args.scopes.now) c.named_part-in-For.new.scopes c.from_residual-in_err-first-in-For.result c.in_err-first-in-For.field-0.0 c.from_residual-in_err-first-in-For.ensures.1 c.in_err-first-in-For.ensures (λ f q. rw (for_by c.args.names.now c.args.act.now c.args.scopes.now c.in-For.first c.in-For.e c.in-For.step c.in-For.body c.in-For.is, ← c.open-mark-in-For.ensures.opened, q) refl)

pub named_act-returns-in_err-condition-in-For : goal.named_act-returns-in_err-condition-in-For
named_act-returns-in_err-condition-in-For t c =
    part_halts (maybe_named c.args.names.now c.named_part-in-For.new.scopes c.in-For.e) (act_named c.args.names.now c.args.act.now c.args.scopes.now) c.named_part-in-For.new.scopes c.from_residual-in_err-condition-in-For.result c.in_err-condition-in-For.field-0.0 c.from_residual-in_err-condition-in-For.ensures.1 c.in_err-condition-in-For.ensures (λ f q. rw (for_by c.args.names.now c.args.act.now c.args.scopes.now c.in-For.first c.in-For.e c.in-For.step c.in-For.body c.in-For.is, ← c.open-mark-in-For.ensures.opened, c.in_ok-first-in-For.ensures, q) refl)

pub named_act-returns-in_err-body-in-For : goal.named_act-returns-in_err-body-in-For
named_act-returns-in_err-body-in-For t c =
    step_halts (stmt_named c.args.names.now c.get-in-For.result.now c.named_part-in-For.new.scopes) c.boxed_stmt-in-For.new.scopes (act_named c.args.names.now c.args.act.now c.args.scopes.now) c.boxed_stmt-in-For.new.scopes c.from_residual-in_err-body-in-For.result c.in_err-body-in-For.field-0.0 c.from_residual-in_err-body-in-For.ensures.1 c.in_err-body-in-For.ensures (λ f q. rw (for_by c.args.names.now c.args.act.now c.args.scopes.now c.in-For.first c.in-For.e c.in-For.step c.in-For.body c.in-For.is, ← c.open-mark-in-For.ensures.opened, c.in_ok-first-in-For.ensures, c.in_ok-condition-in-For.ensures, ← c.get-in-For.ensures, q) refl)

pub named_act-returns-in_err-step-in-For : goal.named_act-returns-in_err-step-in-For
named_act-returns-in_err-step-in-For t c =
    step_halts (part_named c.args.names.now c.in-For.step c.boxed_stmt-in-For.new.scopes) c.named_part-in-For-2.new.scopes (act_named c.args.names.now c.args.act.now c.args.scopes.now) c.named_part-in-For-2.new.scopes c.from_residual-in_err-step-in-For.result c.in_err-step-in-For.field-0.0 c.from_residual-in_err-step-in-For.ensures.1 c.in_err-step-in-For.ensures (λ f q. rw (for_by c.args.names.now c.args.act.now c.args.scopes.now c.in-For.first c.in-For.e c.in-For.step c.in-For.body c.in-For.is, ← c.open-mark-in-For.ensures.opened, c.in_ok-first-in-For.ensures, c.in_ok-condition-in-For.ensures, ← c.get-in-For.ensures, c.in_ok-body-in-For.ensures, q) refl)

pub named_act-returns-in_ok-step-in-For : goal.named_act-returns-in_ok-step-in-For
named_act-returns-in_ok-step-in-For t c =
    rw (for_by c.args.names.now c.args.act.now c.args.scopes.now c.in-For.first c.in-For.e c.in-For.step c.in-For.body c.in-For.is, ← c.open-mark-in-For.ensures.opened, c.in_ok-first-in-For.ensures, c.in_ok-condition-in-For.ensures, ← c.get-in-For.ensures, c.in_ok-body-in-For.ensures, c.in_ok-step-in-For.ensures, c.close-in-For.ensures c.args.scopes.now c.open-mark-in-For.ensures.len c.open-mark-in-For.ensures.base) refl
