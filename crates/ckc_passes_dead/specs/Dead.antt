-- Which operations are dropped since nothing wants what they write.
use Rattle.std.specs.Prelude.{◌≡◌, ◌≢◌, ◌⊎◌, ℕ, true, List, [], ◌∷◌, Option, Some, None}
use Rattle.ckc_tac.specs.declared.code.TacBlock.{TacBlock}
use Rattle.ckc_tac.specs.declared.code.TacOp.{TacOp}
use Rattle.ckc_tac.specs.declared.code.TacOp.TheVariants.{Const, Copy, Bin, High}
use Rattle.ckc_tac.specs.declared.code.TacEnd.{TacEnd}
use Rattle.ckc_flow.specs.Live.{IsLive, reads, target_of}
use Rattle.ckc_passes.specs.Passes.{Pass}

-- The register that a Const, Copy, Bin or High writes. These do nothing else, so that one of them may be dropped.
abbrev pub plain_target : TacOp → Option ℕ
plain_target (Const t n) = Some t
plain_target (Copy t a) = Some t
plain_target (Bin op t a b) = Some t
plain_target (High is_signed t a b) = Some t
plain_target op = None

-- an operation that only writes a register, and this is not wanted after it
abbrev pub IsUnwanted : (Wanted : ℕ → Type 0) → TacOp → Type 0
IsUnwanted Wanted op = (t : ℕ) × (plain_target op ≡ Some t) × (Wanted t → ⊥)

-- Which registers are wanted in front of an operation, from those wanted after it: the same if it is dropped, else those
-- that it reads and those wanted after it other than its target.
abbrev pub IsWantedBefore : (Wanted : ℕ → Type 0) → TacOp → ℕ → Type 0
IsWantedBefore Wanted op r =
    (IsUnwanted Wanted op × Wanted r)
    ⊎ ((IsUnwanted Wanted op → ⊥) × ((reads r op ≡ true) ⊎ ((target_of op ≢ Some r) × Wanted r)))

-- Which registers are wanted in front of operations and the end of their block. At the end these are the registers that
-- it reads and those live at the beginning of a block that it names.
abbrev pub IsWanted : List TacBlock → TacEnd → List TacOp → ℕ → Type 0
IsWanted blocks end [] = λ r. IsLive blocks r [] end
IsWanted blocks end (op ∷ ops) = IsWantedBefore (IsWanted blocks end ops) op

-- an operation in front of others whose register is not wanted there
abbrev pub IsDead : List TacBlock → TacEnd → (ops : List TacOp) → TacOp → Type 0
IsDead blocks end ops op = IsUnwanted (IsWanted blocks end ops) op

-- The pass drops exactly the dead operations, and leaves the others and the ends of blocks as they were.
abbrev pub dead_pass : Pass
dead_pass = record {
  Keeps = λ blocks done ops end op low. (low ≡ op) × (IsDead blocks end ops op → ⊥);
  Drops = λ blocks done ops end op. IsDead blocks end ops op;
  Ends = λ blocks done end low_end. low_end ≡ end;
}
