use Rattle.std.proofs.Common.{arith, sym, ◌∙◌}
use Rattle.ckc_lexer.proofs.MarkFronts.{double_longest, single_longest}
use Rattle.ckc_lexer.proofs.marks.mark_at.Goals as goal
use Rattle.ckc_lexer.proofs.marks.mark_at.Goals.{else-text-gt1-via-then-text-gt1+else-is_double, else-text-gt1-via-else-text-gt1}

pub returns-then-is_double : goal.returns-then-is_double
returns-then-is_double c = double_longest c.args.text.now c.if-text-gt1.true (sym c.is_double.ensures ∙ c.if-is_double.true)

pub returns-else-text-gt1 : goal.returns-else-text-gt1
returns-else-text-gt1 c = single_longest c.args.text.now c.requires.some (omega (arith, c.type_inv.text 0)) c.requires.mark (λ two.
    elim c.else-text-gt1.branch [
      | else-text-gt1-via-then-text-gt1+else-is_double w ↦ sym w.is_double.ensures ∙ w.if-is_double.false
      | else-text-gt1-via-else-text-gt1 w ↦ absurd (omega (arith, two, w.if-text-gt1.false))
    ])
