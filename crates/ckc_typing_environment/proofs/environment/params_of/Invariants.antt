use Rattle.std.proofs.Common.{◌≡◌, take, map}
use Rattle.ckc_typed.specs.Interfaces.{seen}
use Rattle.ckc_typed.specs.Environment.{variable_declared}
use Rattle.ckc_typing_environment.proofs.environment.params_of.Given as goal

abbrev pub invariant-loop-d : goal.invariant-loop-d
invariant-loop-d g l = l.all ≡ map variable_declared (map (seen l.mode) (take l.d-index l.d-items))
