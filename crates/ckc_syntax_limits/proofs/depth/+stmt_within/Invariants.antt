use Rattle.std.proofs.Common.{◌≤◌, ◌↔◌, drop}
use Rattle.ckc_syntax.specs.Inside.{highest, inside_each}
use Rattle.ckc_syntax_limits.specs.Depth.{depth_of_stmt}
use Rattle.ckc_syntax_limits.proofs.depth.+stmt_within.Given as goal

-- what is left is shallow exactly when the whole is
abbrev pub invariant-stmts_within-loop-stmt : goal.invariant-stmts_within-loop-stmt
invariant-stmts_within-loop-stmt g l =
    (inside_each highest depth_of_stmt l.stmts ≤ l.left) ↔ (inside_each highest depth_of_stmt (drop l.stmt-index l.stmts) ≤ l.left)
