use Rattle.std.proofs.Common.{List, take}
use Rattle.std.specs.Prelude.{All}
use Rattle.std.specs.List.{AllZip}
use Rattle.ckc_tac.specs.declared.code.TacFunc.{TacFunc}
use Rattle.ckc_tac.specs.WellFormed.{IsFunctionOver}
use Rattle.ckc_passes_jumps.specs.Jumps.{FunctionAfter}
use Rattle.ckc_passes_jumps.proofs.program.functions.Given as goal

abbrev pub invariant-loop-f : goal.invariant-loop-f
invariant-loop-f l = (functions : List TacFunc) → All (IsFunctionOver functions) l.fs → AllZip FunctionAfter (take l.f-index l.fs) l.left.items
