-- Operations of a block are taken one after another: what is left of them, and what a table knows of them.
use Rattle.std.specs.Prelude.{◌≡◌, ◌⊎◌, ℕ, List, [], ◌∷◌, ◌++◌, length, drop}
use Rattle.ckc_tac.specs.declared.code.TacBlock.{TacBlock}
use Rattle.ckc_tac.specs.declared.code.TacOp.{TacOp}
use Rattle.ckc_tac.specs.declared.code.TacEnd.{TacEnd}
use Rattle.ckc_passes.specs.Passes.{Becomes}
use Rattle.ckc_passes_redundant.specs.Redundant.{Repeats, redundant_pass}
use Rattle.ckc_passes_redundant.specs.declared.table.Table.{Table}
use Rattle.ckc_passes_redundant.specs.code.Tables.{KnowsAfter}

-- the operation is left out, if it repeats an earlier one, or put behind what is left
abbrev pub IsPut : (done : List TacOp) → TacOp → (left left' : List TacOp) → Type 0
IsPut done op left left' = (Repeats done op × (left' ≡ left)) ⊎ ((Repeats done op → ⊥) × (left' ≡ left ++ op ∷ []))

-- one more operation is taken, after so many
abbrev pub Passes : TacOp → ℕ → (table table' : Table) (left left' : List TacOp) → Type 0
Passes op place table table' left left' = (done : List TacOp) → length done ≡ place → KnowsAfter done table
    → KnowsAfter (op ∷ done) table' × IsPut done op left left'

-- So many operations of a block are taken: the table knows of them, and what is left of the others, put behind what is
-- left of these, is left of all.
pub record IsUnderway (ops : List TacOp) (end : TacEnd) (place : ℕ) (table : Table) (left : List TacOp) : Type 0 where
  pub done : List TacOp
  pub long : length done ≡ place
  pub knows : KnowsAfter done table
  pub becomes : (blocks : List TacBlock) (rest : List TacOp) → Becomes redundant_pass blocks done (drop place ops) end rest end
      → Becomes redundant_pass blocks [] ops end (left ++ rest) end
