use Rattle.std.proofs.Common.{◌≡◌, ◌++◌, drop}
use Rattle.ckc_build_elaborate.specs.Functions.{interfaces_from}
use Rattle.ckc_build_elaborate.proofs.interfaces.interfaces_in.Given as goal

abbrev pub invariant-loop-d : goal.invariant-loop-d
invariant-loop-d l = l.all ++ interfaces_from l.typed l.locals l.param (drop l.d-index l.params) ≡ interfaces_from l.typed l.locals 0 l.params
