use Rattle.std.proofs.Common.{ap, sym, ◌∙◌}
use Rattle.ckc_syntax.specs.Inside.{all_have, inside_each}
use Rattle.ckc_blame.specs.Checked.{checked_act, checked_stmt}
use Rattle.ckc_blame.proofs.Lists.{checked_block, checked_bundle}
use Rattle.ckc_blame.proofs.checked.+stmt_is_checked.Goals as goal

pub act_is_checked-returns-in-Block : goal.act_is_checked-returns-in-Block
act_is_checked-returns-in-Block t c =
    c.stmts_are_checked.ensures ∙ sym (ap checked_act c.in-Block.is ∙ checked_block c.in-Block.field-0 c.in-Block.stmts ∙ ap (λ ss. inside_each all_have checked_stmt ss) (sym c.as_slice.ensures))

pub act_is_checked-returns-in-Bundle : goal.act_is_checked-returns-in-Bundle
act_is_checked-returns-in-Bundle t c =
    c.stmts_are_checked-in-Bundle.ensures ∙ sym (ap checked_act c.in-Bundle.is ∙ checked_bundle c.in-Bundle.stmts ∙ ap (λ ss. inside_each all_have checked_stmt ss) (sym c.as_slice-in-Bundle.ensures))
