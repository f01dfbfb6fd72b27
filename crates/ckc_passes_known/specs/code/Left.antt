-- Operations of a block are taken one after another: what is left of them.
use Rattle.std.specs.Prelude.{◌≡◌, ◌⊎◌, ℕ, List, [], ◌∷◌, ◌++◌, take, drop}
use Rattle.ckc_tac.specs.declared.code.TacBlock.{TacBlock}
use Rattle.ckc_tac.specs.declared.code.TacOp.{TacOp}
use Rattle.ckc_tac.specs.declared.code.TacEnd.{TacEnd}
use Rattle.ckc_passes.specs.Passes.{Becomes}
use Rattle.ckc_passes.specs.Rewrites.{all_done}
use Rattle.ckc_passes_known.specs.Known.{IsNeedless, known_pass}

-- the operation is left out, if it is a check that is needless, or put behind what is left
abbrev pub IsPut : List TacBlock → ℕ → (done : List TacOp) → TacOp → (left left' : List TacOp) → Type 0
IsPut blocks b done op left left' =
    (IsNeedless blocks b done op × (left' ≡ left)) ⊎ ((IsNeedless blocks b done op → ⊥) × (left' ≡ left ++ op ∷ []))

-- So many operations of a block are taken: what is left of the others, put behind what is left of these, is left of all.
abbrev pub IsTaken : List TacBlock → (b : ℕ) (ops : List TacOp) (count : ℕ) (left : List TacOp) → Type 0
IsTaken blocks b ops count left = (rest : List TacOp) (end low_end : TacEnd)
    → Becomes (known_pass b) blocks (all_done [] (take count ops)) (drop count ops) end rest low_end
    → Becomes (known_pass b) blocks [] ops end (left ++ rest) low_end
