use Rattle.std.proofs.Common.{◌≡◌, map, take}
use Rattle.ckc_passes_copies.specs.code.Tables.{function_with}
use Rattle.ckc_passes_copies.proofs.program.functions.Given as goal

abbrev pub invariant-loop-f : goal.invariant-loop-f
invariant-loop-f l = l.made.items ≡ map function_with (take l.f-index l.fs)
