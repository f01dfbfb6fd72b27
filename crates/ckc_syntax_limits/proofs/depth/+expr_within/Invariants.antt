use Rattle.std.proofs.Common.{◌≤◌, ◌↔◌, drop}
use Rattle.ckc_syntax.specs.Inside.{highest, inside_each}
use Rattle.ckc_syntax_limits.specs.Depth.{depth_of_expr}
use Rattle.ckc_syntax_limits.proofs.depth.+expr_within.Given as goal

-- what is left is shallow exactly when the whole is
abbrev pub invariant-exprs_within-loop-e : goal.invariant-exprs_within-loop-e
invariant-exprs_within-loop-e g l =
    (inside_each highest depth_of_expr l.es ≤ l.left) ↔ (inside_each highest depth_of_expr (drop l.e-index l.es) ≤ l.left)
