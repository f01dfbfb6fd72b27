use Rattle.std.proofs.Common.{◌≡◌, ◌+◌, drop}
use Rattle.ckc_build_elaborate.specs.Literals.{literals_of_decls}
use Rattle.ckc_build_elaborate.proofs.literals.in_decls.Given as goal

abbrev pub invariant-loop-d : goal.invariant-loop-d
invariant-loop-d l = l.n + literals_of_decls (drop l.d-index l.ds) ≡ l.before + literals_of_decls l.ds
