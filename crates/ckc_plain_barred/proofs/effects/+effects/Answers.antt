use Rattle.std.proofs.Common.{sym, ap, ◌∙◌, true}
use Rattle.ckc_plain_barred.specs.Effects.{in_expr, in_exprs}
use Rattle.ckc_plain_barred.specs.Forms.{form_of}
use Rattle.ckc_plain_barred.specs.code.First.{first}
use Rattle.ckc_plain_barred.specs.code.Refused.{right_by}
use Rattle.ckc_plain_barred.proofs.Firsts.{both_are}
use Rattle.ckc_plain_barred.proofs.FoundNodes.{sets_found, others_found, pick_inside, index_inside, trusted_inside, tested_inside, call_inside, between_found}
use Rattle.ckc_plain_barred.proofs.effects.+effects.Goals as goal

pub first_in_limits-returns-in-Between : goal.first_in_limits-returns-in-Between
first_in_limits-returns-in-Between t c =
    both_are _ _ _ _ _ c.first_of.ensures (c.first_in-in-Between.ensures ∙ ap (λ u. first (in_expr c.args.known.now u true)) c.get-in-Between.ensures) (c.first_in-in-Between-2.ensures ∙ ap (λ u. first (in_expr c.args.known.now u true)) c.get-in-Between-2.ensures)
    ∙ sym (ap first (between_found c.args.known.now c.args.limits.now c.in-Between.e c.in-Between.f c.in-Between.field-2 c.in-Between.is))

pub first_inside-returns-in-Sets : goal.first_inside-returns-in-Sets
first_inside-returns-in-Sets t c =
    both_are _ _ _ _ _ c.first_of.ensures (c.first_in-in-Sets.ensures ∙ ap (λ u. first (in_expr c.args.known.now u true)) c.get-in-Sets.ensures)
    (c.first_in_right.ensures ∙ ap (λ g. first (right_by c.args.known.now g c.get-in-Sets-3.result.now c.args.barred)) (c.form_of.ensures ∙ ap form_of c.get-in-Sets-2.ensures) ∙ ap (λ u. first (right_by c.args.known.now (form_of c.in-Bin.x) u c.args.barred)) c.get-in-Sets-3.ensures)
    ∙ sym (ap first (sets_found c.args.known.now c.args.e.now c.args.barred c.in-Bin.op c.in-Bin.x c.in-Bin.f c.in-Bin.is (sym c.work_of.ensures ∙ c.in-Sets.is)))

pub first_inside-returns-in_default : goal.first_inside-returns-in_default
first_inside-returns-in_default t c =
    both_are _ _ _ _ _ c.first_of-in_default.ensures (c.first_in-in_default.ensures ∙ ap (λ u. first (in_expr c.args.known.now u c.args.barred)) c.get-in_default.ensures) (c.first_in-in_default-2.ensures ∙ ap (λ u. first (in_expr c.args.known.now u c.args.barred)) c.get-in_default-2.ensures)
    ∙ sym (ap first (others_found c.args.known.now c.args.e.now c.args.barred c.in-Bin.op c.in-Bin.x c.in-Bin.f c.in-Bin.is (λ h. c.in_default.not-Sets (c.work_of.ensures ∙ h))))

pub first_inside-returns-in-Pick : goal.first_inside-returns-in-Pick
first_inside-returns-in-Pick t c =
    both_are _ _ _ _ _ c.first_of-in-Pick-2.ensures (c.first_in-in-Pick.ensures ∙ ap (λ u. first (in_expr c.args.known.now u c.args.barred)) c.get-in-Pick.ensures)
    (both_are _ _ _ _ _ c.first_of-in-Pick.ensures (c.first_in-in-Pick-2.ensures ∙ ap (λ u. first (in_expr c.args.known.now u true)) c.get-in-Pick-2.ensures) (c.first_in-in-Pick-3.ensures ∙ ap (λ u. first (in_expr c.args.known.now u true)) c.get-in-Pick-3.ensures))
    ∙ sym (ap first (pick_inside c.args.known.now c.args.e.now c.args.barred c.in-Pick.x c.in-Pick.f c.in-Pick.g c.in-Pick.is))

pub first_inside-returns-in-Index : goal.first_inside-returns-in-Index
first_inside-returns-in-Index t c =
    both_are _ _ _ _ _ c.first_of-in-Index.ensures (c.first_in-in-Index.ensures ∙ ap (λ u. first (in_expr c.args.known.now u c.args.barred)) c.get-in-Index.ensures) (c.first_in-in-Index-2.ensures ∙ ap (λ u. first (in_expr c.args.known.now u c.args.barred)) c.get-in-Index-2.ensures)
    ∙ sym (ap first (index_inside c.args.known.now c.args.e.now c.args.barred c.in-Index.x c.in-Index.f c.in-Index.is))

pub first_inside-returns-in-Trusted : goal.first_inside-returns-in-Trusted
first_inside-returns-in-Trusted t c =
    both_are _ _ _ _ _ c.first_of-in-Trusted.ensures (c.first_in-in-Trusted.ensures ∙ ap (λ u. first (in_expr c.args.known.now u c.args.barred)) c.get-in-Trusted.ensures) c.first_in_bounds.ensures
    ∙ sym (ap first (trusted_inside c.args.known.now c.args.e.now c.args.barred c.in-Trusted.field-0 c.in-Trusted.x c.in-Trusted.limits c.in-Trusted.is))

pub first_inside-returns-in-Tested : goal.first_inside-returns-in-Tested
first_inside-returns-in-Tested t c =
    both_are _ _ _ _ _ c.first_of-in-Tested.ensures (c.first_in-in-Tested.ensures ∙ ap (λ u. first (in_expr c.args.known.now u c.args.barred)) c.get-in-Tested.ensures) c.first_in_bounds-in-Tested.ensures
    ∙ sym (ap first (tested_inside c.args.known.now c.args.e.now c.args.barred c.in-Tested.field-0 c.in-Tested.x c.in-Tested.limits c.in-Tested.is))

pub first_inside-returns-in-Call : goal.first_inside-returns-in-Call
first_inside-returns-in-Call t c =
    c.first_in_exprs.ensures ∙ ap (λ us. first (in_exprs c.args.known.now us c.args.barred)) c.as_slice.ensures
    ∙ sym (ap first (call_inside c.args.known.now c.args.e.now c.args.barred c.in-Call.field-0 c.in-Call.es c.in-Call.is))
