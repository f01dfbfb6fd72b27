use Rattle.std.proofs.Common.{◌≡◌, map}
use Rattle.ckc_bounds_statements.specs.Paths.{all_judged, path}
use Rattle.ckc_bounds_statements.specs.Walks.{here}
use Rattle.ckc_base.proofs.Sequels.{behind, left}
use Rattle.ckc_bounds_statements.proofs.statements.+stmt.Given as goal

abbrev pub invariant-judge_stmts-loop-s : goal.invariant-judge_stmts-loop-s
invariant-judge_stmts-loop-s l = all_judged l.frame l.head (map path l.ss) (here l.fn.walk) ≡ behind l.all (left (λ s. (path s).judged l.frame l.head) l.ss l.s-index (here l.walk))
