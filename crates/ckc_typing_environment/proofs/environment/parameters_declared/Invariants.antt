use Rattle.std.proofs.Common.{◌≡◌, take, map}
use Rattle.ckc_typed.specs.Environment.{parameter_declared}
use Rattle.ckc_typing_environment.proofs.environment.parameters_declared.Given as goal

abbrev pub invariant-loop-d : goal.invariant-loop-d
invariant-loop-d l = l.all ≡ map parameter_declared (take l.d-index l.ds)
