-- The rows of marks of calls, in the order of the code.
use Rattle.std.specs.Prelude.{◌≡◌, ◌≢◌, ◌↔◌, ℕ, ◌<◌, Bool, true, false, List, [], ◌∷◌, ◌++◌, length, get_or, set, Option, Some, None}
use Rattle.ckc_tac.specs.declared.code.TacBlock.{TacBlock}
use Rattle.ckc_tac.specs.declared.code.TacEnd.{TacEnd}
use Rattle.ckc_tac.specs.declared.code.TacFunc.{TacFunc}
use Rattle.ckc_tac.specs.declared.code.TacOp.{TacOp}
use Rattle.ckc_tac.specs.declared.code.TacOp.TheVariants.{Call}
use Rattle.ckc_flow.specs.Live.{IsLive}

abbrev pub without : Option ℕ → List Bool → List Bool
without (Some t) row = set row t false
without None row = row

-- the row of a call, from the registers that are live after it
abbrev pub call_row : TacOp → List Bool → List (List Bool)
call_row (Call target callee arguments at) row = without target row ∷ []
call_row op row = []

-- A row marks the registers that are live in front of operations, a target apart.
pub record IsKept (f : TacFunc) (end : TacEnd) (ops : List TacOp) (target : Option ℕ) (row : List Bool) : Type 0 where
  pub long : length row ≡ f.regs
  pub exact : (r : ℕ) → r < f.regs → (get_or row r false ≡ true) ↔ (IsLive f.blocks r ops end × (target ≢ Some r))

-- the rows are those of the calls among operations
abbrev pub AreKept : TacFunc → TacEnd → List TacOp → List (List Bool) → Type 0
AreKept f end [] rows = rows ≡ []
AreKept f end (Call target callee arguments at ∷ ops) [] = ⊥
AreKept f end (Call target callee arguments at ∷ ops) (row ∷ rows) = IsKept f end ops target row × AreKept f end ops rows
AreKept f end (op ∷ ops) rows = AreKept f end ops rows

-- the rows are those of the calls in blocks
abbrev pub AllKept : TacFunc → List TacBlock → List (List Bool) → Type 0
AllKept f [] rows = rows ≡ []
AllKept f (block ∷ blocks) rows =
    (here : List (List Bool)) × (rest : List (List Bool)) × (rows ≡ here ++ rest) × AreKept f block.end block.ops here × AllKept f blocks rest
