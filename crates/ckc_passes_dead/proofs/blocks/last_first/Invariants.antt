use Rattle.std.proofs.Common.{◌≤◌, List, [], drop, length, reverse}
use Rattle.std.specs.Prelude.{All}
use Rattle.ckc_tac.specs.declared.code.TacFunc.{TacFunc}
use Rattle.ckc_tac.specs.declared.code.TacEnd.{TacEnd}
use Rattle.ckc_tac.specs.WellFormed.{IsOpOver}
use Rattle.ckc_flow.specs.Live.{IsExact}
use Rattle.ckc_passes_dead.specs.code.Passing.{IsLeft}
use Rattle.ckc_passes_dead.proofs.blocks.last_first.Given as goal

abbrev pub invariant-loop-i : goal.invariant-loop-i
invariant-loop-i l = record {
  within : l.i ≤ length l.ops;
  left : (f : TacFunc) (functions : List TacFunc) (end : TacEnd) → All (IsOpOver functions f.regs) l.ops
      → IsExact f [] end l.initial.row → IsLeft f end (drop l.i l.ops) (reverse l.left.items) l.row;
}

abbrev pub decreases-loop-i : goal.decreases-loop-i
decreases-loop-i l = l.i
