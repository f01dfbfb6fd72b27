use Rattle.std.proofs.Common.{◌≡◌, drop}
use Rattle.ckc_typing_environment.specs.Numbered.{objects_numbered}
use Rattle.ckc_typing_environment.proofs.scope.objects_numbered.Given as goal

-- those before are at their places
abbrev pub invariant-loop-at : goal.invariant-loop-at
invariant-loop-at l = objects_numbered 0 l.objects ≡ objects_numbered l.at (drop l.at l.objects)
