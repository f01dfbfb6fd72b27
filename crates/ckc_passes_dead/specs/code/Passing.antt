-- Operations of a block are passed, last first: what is left of them, and which registers are wanted in front of them.
use Rattle.std.specs.Prelude.{ℕ, not, Bool, false, List, ◌∷◌, get_or, reverse, Option, Some, None}
use Rattle.ckc_tac.specs.declared.code.TacFunc.{TacFunc}
use Rattle.ckc_tac.specs.declared.code.TacOp.{TacOp}
use Rattle.ckc_tac.specs.declared.code.TacEnd.{TacEnd}
use Rattle.ckc_tac.specs.WellFormed.{IsOpOver}
use Rattle.ckc_flow.specs.Live.{IsExact}
use Rattle.ckc_passes.specs.Passes.{Becomes}
use Rattle.ckc_passes_dead.specs.Dead.{dead_pass}

-- there is a register, and it is not marked
abbrev pub is_unmarked : Option ℕ → List Bool → Bool
is_unmarked (Some r) row = not (get_or row r false)
is_unmarked None row = false

-- this is left of operations, whatever came before them, and a row marks the registers that are live in it
pub record IsLeft (f : TacFunc) (end : TacEnd) (ops left : List TacOp) (row : List Bool) : Type 0 where
  pub becomes : (done : List TacOp) → Becomes dead_pass f.blocks done ops end left end
  pub exact : IsExact f left end row

-- One more operation is passed: the row, and what is left, last first, have changed as it asks.
abbrev pub Passes : TacOp → (row : List Bool) (left : List TacOp) (row' : List Bool) (left' : List TacOp) → Type 0
Passes op row left row' left' = (f : TacFunc) (functions : List TacFunc) (end : TacEnd) (ops : List TacOp)
    → IsOpOver functions f.regs op → IsLeft f end ops (reverse left) row → IsLeft f end (op ∷ ops) (reverse left') row'
