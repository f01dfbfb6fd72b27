use Rattle.std.proofs.Common.{◌≤◌, []}
use Rattle.ckc_syntax.proofs.tree.+stmt_drop.Given as goal

abbrev pub invariant-drop_stmts-loop-s : goal.invariant-drop_stmts-loop-s
invariant-drop_stmts-loop-s g l =
    goal.size-drop_stmts g (record { the-lifetimes = ([], ([], tt)); stmts = l.rest.items }) ≤ goal.size-drop_stmts g (record { the-lifetimes = ([], ([], tt)); stmts = l.fn.stmts })

abbrev pub decreases-drop_stmts-loop-s : goal.decreases-drop_stmts-loop-s
decreases-drop_stmts-loop-s g l = goal.left-drop_stmts-loop-s g l
