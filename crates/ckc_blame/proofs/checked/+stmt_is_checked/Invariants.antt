use Rattle.std.proofs.Common.{◌≡◌, drop}
use Rattle.ckc_syntax.specs.Inside.{all_have, inside_each}
use Rattle.ckc_blame.specs.Checked.{checked_stmt}
use Rattle.ckc_blame.proofs.checked.+stmt_is_checked.Given as goal

-- what is left is checked exactly if the whole is
abbrev pub invariant-stmts_are_checked-loop-stmt : goal.invariant-stmts_are_checked-loop-stmt
invariant-stmts_are_checked-loop-stmt l = inside_each all_have checked_stmt l.stmts ≡ inside_each all_have checked_stmt (drop l.stmt-index l.stmts)
