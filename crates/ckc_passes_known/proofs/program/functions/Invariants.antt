use Rattle.std.proofs.Common.{take}
use Rattle.std.specs.List.{AllZip}
use Rattle.ckc_passes_known.specs.Known.{FunctionAfter}
use Rattle.ckc_passes_known.proofs.program.functions.Given as goal

abbrev pub invariant-loop-f : goal.invariant-loop-f
invariant-loop-f l = AllZip FunctionAfter (take l.f-index l.fs) l.left.items
