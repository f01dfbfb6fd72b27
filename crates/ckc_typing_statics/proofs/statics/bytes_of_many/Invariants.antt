use Rattle.std.proofs.Common.{◌≡◌, take}
use Rattle.std.specs.List.{flat_map}
use Rattle.ckc_typed.specs.Statics.{bytes_of}
use Rattle.ckc_typing_statics.proofs.statics.bytes_of_many.Given as goal

abbrev pub invariant-loop-e : goal.invariant-loop-e
invariant-loop-e l = l.all ≡ flat_map (bytes_of l.structs l.t) (take l.e-index l.es)
