use Rattle.std.proofs.Common.{◌≡◌, ◌++◌, take, map}
use Rattle.ckc_typed.specs.Statics.{object_of_string}
use Rattle.ckc_typing_statics.proofs.statics.add_literals.Given as goal

abbrev pub invariant-loop-s : goal.invariant-loop-s
invariant-loop-s l = l.all ≡ l.initial.all ++ map object_of_string (take l.s-index l.strings)
