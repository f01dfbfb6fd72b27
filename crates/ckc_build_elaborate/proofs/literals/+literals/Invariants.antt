use Rattle.std.proofs.Common.{◌≡◌, ◌+◌, map, drop}
use Rattle.ckc_build_elaborate.specs.code.Statements.{all_literals}
use Rattle.ckc_build_elaborate.specs.Statements.{part_of}
use Rattle.ckc_build_elaborate.proofs.literals.+literals.Given as goal

abbrev pub invariant-in_stmts-loop-s : goal.invariant-in_stmts-loop-s
invariant-in_stmts-loop-s l = l.n + all_literals (map part_of (drop l.s-index l.ss)) ≡ l.before + all_literals (map part_of l.ss)
