use Rattle.std.proofs.Common.{◌≡◌, ◌++◌, take}
use Rattle.ckc_typing_statics.proofs.statics.add_bytes.Given as goal

abbrev pub invariant-loop-b : goal.invariant-loop-b
invariant-loop-b l = l.all ≡ l.initial.all ++ take l.b-index l.bytes
