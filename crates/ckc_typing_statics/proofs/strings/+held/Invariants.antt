use Rattle.std.proofs.Common.{◌≡◌, ◌++◌, map, drop}
use Rattle.ckc_syntax.specs.Inside.{listed, inside_each}
use Rattle.ckc_typed.specs.Statics.{strings_of_stmt}
use Rattle.ckc_typing_statics.proofs.strings.+held.Given as goal

-- with the strings of the statements that are left, the strings so far are all of them
abbrev pub invariant-add_stmts-loop-s : goal.invariant-add_stmts-loop-s
invariant-add_stmts-loop-s l = l.initial.all ++ inside_each listed (λ x. x) (map strings_of_stmt l.ss) ≡ l.all ++ inside_each listed (λ x. x) (map strings_of_stmt (drop l.s-index l.ss))
