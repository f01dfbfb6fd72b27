use Rattle.std.proofs.Common.{List, take}
use Rattle.std.specs.Prelude.{All}
use Rattle.std.specs.List.{AllZip}
use Rattle.ckc_tac.specs.declared.code.TacFunc.{TacFunc}
use Rattle.ckc_tac.specs.WellFormed.{IsFunctionOver}
use Rattle.ckc_passes.specs.Passes.{FunctionBecomes}
use Rattle.ckc_passes_dead.specs.Dead.{dead_pass}
use Rattle.ckc_passes_dead.proofs.program.functions.Given as goal

abbrev pub invariant-loop-f : goal.invariant-loop-f
invariant-loop-f l = (functions : List TacFunc) → All (IsFunctionOver functions) l.fs
    → AllZip (FunctionBecomes dead_pass) (take l.f-index l.fs) l.after.items
