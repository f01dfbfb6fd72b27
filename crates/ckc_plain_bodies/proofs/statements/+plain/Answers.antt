use Rattle.std.proofs.Common.{sym, ap, ◌∙◌}
use Rattle.ckc_plain_bodies.specs.Expressions.{maybe_plain}
use Rattle.ckc_plain_bodies.specs.Statements.{alone, stmt_plain}
use Rattle.ckc_plain_bodies.specs.code.Statements.{local_act, assign_act}
use Rattle.ckc_plain_bodies.proofs.KeptActs.{empty_made, local_made, assign_made, break_made, continue_made, block_steps, bundle_steps, call_steps, check_steps, return_steps, if_steps, while_steps, for_steps, stmt_done, alone_done}
use Rattle.ckc_plain_bodies.proofs.Stays.{steps_along, steps_of}
use Rattle.ckc_plain_bodies.proofs.Turns.{stmt_end}
use Rattle.ckc_plain_bodies.proofs.statements.+plain.Goals as goal

pub plain_act-returns-in_ok-step-in-For : goal.plain_act-returns-in_ok-step-in-For
plain_act-returns-in_ok-step-in-For t c =
    steps_of c.for_at.result _ _ _ c.for_at.ensures
    (for_steps c.args.known.now c.args.act.now c.args.pending.now c.in-For.first c.in-For.e c.in-For.step c.in-For.body c.in-For.is
    c.in_ok-first-in-For.first c.part_before.new.pending c.in_ok-condition-in-For.condition c.maybe_expr.new.pending c.in_ok-body-in-For.body c.stmt_alone-in-For.new.next c.in_ok-step-in-For.step c.part_alone-in-For.new.next
    c.in_ok-first-in-For.ensures
    (ap (λ z. maybe_plain c.args.known.now c.in-For.e z) (sym c.none-before-in-For.ensures) ∙ c.in_ok-condition-in-For.ensures)
    (ap (λ u. alone (stmt_plain c.args.known.now u) c.maybe_expr.new.pending.next) (sym c.get-in-For.ensures) ∙ c.in_ok-body-in-For.ensures)
    c.in_ok-step-in-For.ensures)

pub plain_act-returns-in_ok-all-in-Block : goal.plain_act-returns-in_ok-all-in-Block
plain_act-returns-in_ok-all-in-Block t c =
    block_steps c.args.known.now c.args.act.now c.args.pending.now _ c.in-Block.ss c.as_slice.result.now _ _ c.in-Block.is c.as_slice.ensures c.in_ok-all-in-Block.ensures

pub plain_act-returns-in_ok-all-in-Bundle : goal.plain_act-returns-in_ok-all-in-Bundle
plain_act-returns-in_ok-all-in-Bundle t c =
    bundle_steps c.args.known.now c.args.act.now c.args.pending.now c.in-Bundle.ss c.as_slice-in-Bundle.result.now _ _ c.in-Bundle.is c.as_slice-in-Bundle.ensures c.in_ok-all-in-Bundle.ensures

pub plain_act-returns-in-Empty : goal.plain_act-returns-in-Empty
plain_act-returns-in-Empty t c =
    empty_made c.args.known.now c.args.act.now c.args.pending.now c.in-Empty.is

pub plain_act-returns-in-Break : goal.plain_act-returns-in-Break
plain_act-returns-in-Break t c =
    break_made c.args.known.now c.args.act.now c.args.pending.now c.in-Break.is

pub plain_act-returns-in-Continue : goal.plain_act-returns-in-Continue
plain_act-returns-in-Continue t c =
    continue_made c.args.known.now c.args.act.now c.args.pending.now c.in-Continue.is

pub plain_act-returns-in-Local : goal.plain_act-returns-in-Local
plain_act-returns-in-Local t c =
    steps_along c.plain_local.result c.plain_local.new.pending _ _
    (ap (λ d. local_act c.args.known.now d c.args.pending.now) c.get.ensures ∙ sym (local_made c.args.known.now c.args.act.now c.args.pending.now c.in-Local.d c.in-Local.is))
    c.plain_local.ensures

pub plain_act-returns-in-Assign : goal.plain_act-returns-in-Assign
plain_act-returns-in-Assign t c =
    steps_along c.plain_assign.result c.plain_assign.new.pending _ _
    (ap (λ x. assign_act c.args.known.now x c.get-in-Assign-2.result.now c.args.pending.now) c.get-in-Assign.ensures ∙ ap (λ e. assign_act c.args.known.now c.in-Assign.x e c.args.pending.now) c.get-in-Assign-2.ensures
    ∙ sym (assign_made c.args.known.now c.args.act.now c.args.pending.now c.in-Assign.x c.in-Assign.e c.in-Assign.is))
    c.plain_assign.ensures

pub plain_act-returns-in_ok-call-in-Call : goal.plain_act-returns-in_ok-call-in-Call
plain_act-returns-in_ok-call-in-Call t c =
    call_steps c.args.known.now c.args.act.now c.args.pending.now c.in-Call.e c.get-in-Call.result.now _ _ c.in-Call.is c.get-in-Call.ensures c.in_ok-call-in-Call.ensures

pub plain_act-returns-in_ok-otherwise-in-If : goal.plain_act-returns-in_ok-otherwise-in-If
plain_act-returns-in_ok-otherwise-in-If t c =
    if_steps c.args.known.now c.args.act.now c.args.pending.now c.in-If.e c.get-in-If.result.now _ _ c.in-If.s c.get-in-If-2.result.now _ _ c.in-If.t _ _
    c.in-If.is c.get-in-If.ensures c.in_ok-condition-in-If.ensures c.get-in-If-2.ensures c.in_ok-then-in-If.ensures c.in_ok-otherwise-in-If.ensures

pub plain_act-returns-in_ok-body-in-While : goal.plain_act-returns-in_ok-body-in-While
plain_act-returns-in_ok-body-in-While t c =
    steps_of c.while_at.result _ _ _ c.while_at.ensures
    (while_steps c.args.known.now c.args.act.now c.args.pending.now c.in-While.e c.get-in-While.result.now _ c.none-before.result _ c.in-While.s c.get-in-While-2.result.now _ _
    c.in-While.is c.get-in-While.ensures c.none-before.ensures c.in_ok-condition-in-While.ensures c.get-in-While-2.ensures c.in_ok-body-in-While.ensures)

pub plain_act-returns-in_ok-value-in-Return : goal.plain_act-returns-in_ok-value-in-Return
plain_act-returns-in_ok-value-in-Return t c =
    return_steps c.args.known.now c.args.act.now c.args.pending.now c.in-Return.e _ _ c.in-Return.is c.in_ok-value-in-Return.ensures

pub plain_act-returns-in_ok-condition-in-Check : goal.plain_act-returns-in_ok-condition-in-Check
plain_act-returns-in_ok-condition-in-Check t c =
    check_steps c.args.known.now c.args.act.now c.args.pending.now c.in-Check.e c.get-in-Check.result.now _ _ c.in-Check.is c.get-in-Check.ensures c.in_ok-condition-in-Check.ensures

pub plain_stmt-returns : goal.plain_stmt-returns
plain_stmt-returns t c =
    stmt_done c.args.known.now c.args.s.now c.args.pending.now _ _ _ c.in_ok-body.ensures c.stmt_at.ensures

pub stmt_alone-returns : goal.stmt_alone-returns
stmt_alone-returns t c =
    steps_of c.stmt_in_box.result _ _ _ c.stmt_in_box.ensures
    (alone_done c.args.known.now c.args.s.now c.args.next.now c.none-before.result _ _ _ c.none-before.ensures c.in_ok-made.ensures c.in_ok-whole.ensures)

pub plain_block-returns : goal.plain_block-returns
plain_block-returns t c =
    stmt_end c.args.known.now c.args.ss.now c.loop-s.s-index c.loop-s.next _ c.loop-s.all c.loop-s.invariant c.loop-s-test.false
