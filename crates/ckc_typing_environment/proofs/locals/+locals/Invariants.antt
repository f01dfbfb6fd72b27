use Rattle.std.proofs.Common.{◌≡◌, ◌++◌, map, drop}
use Rattle.ckc_syntax.specs.Inside.{listed, inside_each}
use Rattle.ckc_typed.specs.Environment.{locals_of}
use Rattle.ckc_typing_environment.proofs.locals.+locals.Given as goal

-- with the locals of the statements that are left, the locals so far are all of them
abbrev pub invariant-add_stmts-loop-s : goal.invariant-add_stmts-loop-s
invariant-add_stmts-loop-s g l = l.initial.all ++ inside_each listed (λ x. x) (map locals_of l.ss) ≡ l.all ++ inside_each listed (λ x. x) (map locals_of (drop l.s-index l.ss))
