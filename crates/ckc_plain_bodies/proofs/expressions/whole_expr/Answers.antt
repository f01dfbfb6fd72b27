use Rattle.std.proofs.Common.{sym, ap, ◌∙◌}
use Rattle.ckc_plain_barred.specs.Forms.{is_call}
use Rattle.ckc_plain_bodies.proofs.Stays.{steps_along, whole_else}
use Rattle.ckc_plain_bodies.proofs.expressions.whole_expr.Goals as goal

pub returns : goal.returns
returns c =
    steps_along c.boxed_expr.result c.boxed_expr.new.pending _ _
    (whole_else c.args.known.now c.args.e.now c.args.pending.now
    (sym (ap is_call c.form_of.ensures) ∙ sym c.is_call.ensures ∙ c.if-is_call.false))
    c.boxed_expr.ensures
