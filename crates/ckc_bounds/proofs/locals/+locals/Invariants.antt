use Rattle.std.proofs.Common.{◌≡◌, map, drop}
use Rattle.ckc_bounds.specs.code.Declarations.{with_turns}
use Rattle.ckc_bounds_statements.specs.code.Parts.{all_declared}
use Rattle.ckc_bounds_statements.specs.Paths.{path}
use Rattle.ckc_bounds.proofs.locals.+locals.Given as goal

-- what is left gives what the whole gives
abbrev pub invariant-add_stmts-loop-s : goal.invariant-add_stmts-loop-s
invariant-add_stmts-loop-s l = with_turns l.frame l.turn l.fn.all (all_declared (map path l.ss)) ≡ with_turns l.frame l.turn l.all (all_declared (map path (drop l.s-index l.ss)))
