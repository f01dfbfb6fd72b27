use Rattle.std.proofs.Common.{◌≡◌, drop}
use Rattle.ckc_typing_environment.specs.Numbered.{functions_numbered}
use Rattle.ckc_typing_environment.proofs.scope.functions_numbered.Given as goal

-- those before are at their places
abbrev pub invariant-loop-at : goal.invariant-loop-at
invariant-loop-at l = functions_numbered 0 l.functions ≡ functions_numbered l.at (drop l.at l.functions)
