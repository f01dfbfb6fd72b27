use Rattle.std.proofs.Common.{◌≡◌, map}
use Rattle.ckc_bounds_statements.specs.Paths.{parts_judged, path}
use Rattle.ckc_bounds_statements.specs.Walks.{here}
use Rattle.ckc_base.proofs.Sequels.{behind, left}
use Rattle.ckc_bounds_statements.proofs.statements.judge_sides.Given as goal

abbrev pub invariant-loop-s : goal.invariant-loop-s
invariant-loop-s l = parts_judged l.frame l.bundle (map path l.ss) (here l.fn.walk) ≡ behind l.all (left (λ s. (path s).part l.frame l.bundle) l.ss l.s-index (here l.walk))
