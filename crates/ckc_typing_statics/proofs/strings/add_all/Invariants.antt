use Rattle.std.proofs.Common.{◌≡◌, ◌++◌, take}
use Rattle.std.specs.List.{flat_map}
use Rattle.ckc_typed.specs.Statics.{strings_of_expr}
use Rattle.ckc_typing_statics.proofs.strings.add_all.Given as goal

abbrev pub invariant-loop-e : goal.invariant-loop-e
invariant-loop-e l = l.all ≡ l.initial.all ++ flat_map strings_of_expr (take l.e-index l.es)
