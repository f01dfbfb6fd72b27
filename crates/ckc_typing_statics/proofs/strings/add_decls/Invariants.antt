use Rattle.std.proofs.Common.{◌≡◌, ◌++◌, take}
use Rattle.std.specs.List.{flat_map}
use Rattle.ckc_typed.specs.Statics.{strings_of_decl}
use Rattle.ckc_typing_statics.proofs.strings.add_decls.Given as goal

abbrev pub invariant-loop-d : goal.invariant-loop-d
invariant-loop-d l = l.all ≡ l.initial.all ++ flat_map strings_of_decl (take l.d-index l.ds)
