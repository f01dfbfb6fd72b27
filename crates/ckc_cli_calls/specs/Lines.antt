-- What putting a line leaves.
use Rattle.std.specs.Prelude.{◌≡◌, ◌⊎◌, ℕ, List, [], ◌∷◌, ◌++◌, take, Option, Some}
use Rattle.ckc_outside.specs.Outside.{one_more}

-- The line was put in one call: all of it, or a front of it if the count of the sink rose. A line that is empty
-- is not put.
abbrev pub Reported : List ℕ → Option (List ℕ) → Option (List ℕ) → Type 0 → Type 0
Reported [] old new rose = new ≡ old
Reported (c ∷ line) old new rose =
    (before : List ℕ) → old ≡ Some before → (new ≡ Some (before ++ c ∷ line)) ⊎ (rose × (k : ℕ) × (new ≡ Some (before ++ take k (c ∷ line))))

-- A count of faults after a line was put: one more, or the same; an empty line is not put.
abbrev pub MayFail : List ℕ → ℕ → ℕ → Type 0
MayFail [] old new = new ≡ old
MayFail (c ∷ line) old new = (new ≡ old) ⊎ (new ≡ one_more old)

-- how many pieces were put; an empty line is not put
abbrev pub puts_after : List ℕ → ℕ → ℕ
puts_after [] n = n
puts_after (c ∷ line) n = one_more n
