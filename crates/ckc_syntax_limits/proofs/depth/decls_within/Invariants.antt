use Rattle.std.proofs.Common.{◌≤◌, ◌↔◌, drop}
use Rattle.ckc_syntax.specs.Inside.{highest, inside_each}
use Rattle.ckc_syntax_limits.specs.Depth.{depth_of_decl}
use Rattle.ckc_syntax_limits.proofs.depth.decls_within.Given as goal

-- what is left is shallow exactly when the whole is
abbrev pub invariant-loop-decl : goal.invariant-loop-decl
invariant-loop-decl g l =
    (inside_each highest depth_of_decl l.decls ≤ l.left) ↔ (inside_each highest depth_of_decl (drop l.decl-index l.decls) ≤ l.left)
