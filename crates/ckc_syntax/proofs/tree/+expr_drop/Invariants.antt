use Rattle.std.proofs.Common.{◌≤◌, []}
use Rattle.ckc_syntax.proofs.tree.+expr_drop.Given as goal

abbrev pub invariant-drop_exprs-loop-e : goal.invariant-drop_exprs-loop-e
invariant-drop_exprs-loop-e g l =
    goal.size-drop_exprs g (record { the-lifetimes = ([], ([], tt)); exprs = l.rest.items }) ≤ goal.size-drop_exprs g (record { the-lifetimes = ([], ([], tt)); exprs = l.fn.exprs })

abbrev pub decreases-drop_exprs-loop-e : goal.decreases-drop_exprs-loop-e
decreases-drop_exprs-loop-e g l = goal.left-drop_exprs-loop-e g l
