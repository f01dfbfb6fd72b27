use Rattle.std.proofs.Common.{◌≡◌, map, drop}
use Rattle.ckc_bounds_statements.specs.code.Parts.{some_need}
use Rattle.ckc_bounds_statements.specs.Paths.{path}
use Rattle.ckc_bounds_statements.proofs.needs.+needs.Given as goal

-- what is left decides
abbrev pub invariant-some_need-loop-s : goal.invariant-some_need-loop-s
invariant-some_need-loop-s l = some_need l.frame (map path l.ss) ≡ some_need l.frame (map path (drop l.s-index l.ss))
