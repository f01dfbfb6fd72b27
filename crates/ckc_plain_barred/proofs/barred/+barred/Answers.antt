use Rattle.std.proofs.Common.{sym, ap, ◌∙◌, true}
use Rattle.ckc_plain_barred.specs.Effects.{in_expr}
use Rattle.ckc_plain_barred.specs.Forms.{form_of}
use Rattle.ckc_plain_barred.specs.Barred.{in_stmt}
use Rattle.ckc_plain_barred.specs.code.First.{first, in_each}
use Rattle.ckc_plain_barred.specs.code.Refused.{right_by}
use Rattle.ckc_plain_barred.proofs.Firsts.{both_are}
use Rattle.ckc_plain_barred.proofs.FoundActs.{block_inside, bundle_inside, assign_inside, if_inside, while_inside, for_inside}
use Rattle.ckc_plain_barred.proofs.barred.+barred.Goals as goal

pub first_in_act-returns-in-Block : goal.first_in_act-returns-in-Block
first_in_act-returns-in-Block t c =
    c.first_in_each.ensures ∙ ap (λ us. first (in_each c.args.known.now us c.args.barred)) c.as_slice.ensures
    ∙ sym (ap first (block_inside c.args.known.now c.args.act.now c.args.barred c.in-Block.field-0 c.in-Block.ss c.in-Block.is))

pub first_in_act-returns-in-Bundle : goal.first_in_act-returns-in-Bundle
first_in_act-returns-in-Bundle t c =
    c.first_in_each-in-Bundle.ensures ∙ ap (λ us. first (in_each c.args.known.now us true)) c.as_slice-in-Bundle.ensures
    ∙ sym (ap first (bundle_inside c.args.known.now c.args.act.now c.args.barred c.in-Bundle.ss c.in-Bundle.is))

pub first_in_act-returns-in-Assign : goal.first_in_act-returns-in-Assign
first_in_act-returns-in-Assign t c =
    both_are _ _ _ _ _ c.first_of.ensures (c.first_in.ensures ∙ ap (λ u. first (in_expr c.args.known.now u true)) c.get-in-Assign.ensures)
    (c.first_in_right.ensures ∙ ap (λ g. first (right_by c.args.known.now g c.get-in-Assign-3.result.now c.args.barred)) (c.form_of.ensures ∙ ap form_of c.get-in-Assign-2.ensures) ∙ ap (λ u. first (right_by c.args.known.now (form_of c.in-Assign.x) u c.args.barred)) c.get-in-Assign-3.ensures)
    ∙ sym (ap first (assign_inside c.args.known.now c.args.act.now c.args.barred c.in-Assign.x c.in-Assign.e c.in-Assign.is))

pub first_in_act-returns-in-If : goal.first_in_act-returns-in-If
first_in_act-returns-in-If t c =
    both_are _ _ _ _ _ c.first_of-in-If-2.ensures (c.first_in-in-If.ensures ∙ ap (λ u. first (in_expr c.args.known.now u c.args.barred)) c.get-in-If.ensures)
    (both_are _ _ _ _ _ c.first_of-in-If.ensures (c.first_in_stmt.ensures ∙ ap (λ u. first (in_stmt c.args.known.now u c.args.barred)) c.get-in-If-2.ensures) c.first_in_part.ensures)
    ∙ sym (ap first (if_inside c.args.known.now c.args.act.now c.args.barred c.in-If.e c.in-If.s c.in-If.t c.in-If.is))

pub first_in_act-returns-in-While : goal.first_in_act-returns-in-While
first_in_act-returns-in-While t c =
    both_are _ _ _ _ _ c.first_of-in-While.ensures (c.first_in-in-While.ensures ∙ ap (λ u. first (in_expr c.args.known.now u c.args.barred)) c.get-in-While.ensures) (c.first_in_stmt-in-While.ensures ∙ ap (λ u. first (in_stmt c.args.known.now u c.args.barred)) c.get-in-While-2.ensures)
    ∙ sym (ap first (while_inside c.args.known.now c.args.act.now c.args.barred c.in-While.e c.in-While.s c.in-While.is))

pub first_in_act-returns-in-For : goal.first_in_act-returns-in-For
first_in_act-returns-in-For t c =
    both_are _ _ _ _ _ c.first_of-in-For-3.ensures c.first_in_part-in-For.ensures
    (both_are _ _ _ _ _ c.first_of-in-For-2.ensures c.first_in_maybe.ensures
    (both_are _ _ _ _ _ c.first_of-in-For.ensures (c.first_in_stmt-in-For.ensures ∙ ap (λ u. first (in_stmt c.args.known.now u c.args.barred)) c.get-in-For.ensures) c.first_in_part-in-For-2.ensures))
    ∙ sym (ap first (for_inside c.args.known.now c.args.act.now c.args.barred c.in-For.first c.in-For.e c.in-For.step c.in-For.body c.in-For.is))
