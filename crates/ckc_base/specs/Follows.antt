-- What it is that one program follows another.
use Rattle.std.specs.Prelude.{◌≡◌, ◌≢◌, ◌⊎◌, ℕ, ◌+◌, ◌*◌, ◌≤◌, List, ◌++◌}
use Rattle.ckc_base.specs.Traces.{Standing, Going, Ended, Stopped, Stuck, Fault, Showing}

-- neither stuck nor at a fault
abbrev pub IsSafe : Standing → Type 0
IsSafe Going = Unit {0}
IsSafe (Ended value) = Unit {0}
IsSafe (Stopped check at) = Unit {0}
IsSafe Stuck = ⊥
IsSafe (Fault kind pc) = ⊥

-- ended or stopped
abbrev pub IsOver : Standing → Type 0
IsOver Going = ⊥
IsOver (Ended value) = Unit {0}
IsOver (Stopped check at) = Unit {0}
IsOver Stuck = ⊥
IsOver (Fault kind pc) = ⊥

-- ys begins with xs
abbrev pub IsPrefix : {E : Type 0} → List E → List E → Type 0
IsPrefix {E} xs ys = (rest : List E) × (ys ≡ xs ++ rest)

-- What b shows is borne out by what a shows: b is safe, its events are the first of a's, and if b is over, a
-- shows the same.
pub record IsBorneOut {E : Type 0} (a b : Showing E) : Type 0 where
  pub safe : IsSafe b.standing
  pub begins : IsPrefix b.trace a.trace
  pub over : IsOver b.standing → a ≡ b

-- b follows a, both given by what they show after each number of steps.
-- What a shows after n steps, unless it is stuck, b comes to show within c * (n + 1) steps.
-- What b shows after k steps is borne out by what a shows after some number of steps, unless a is stuck there.
pub record Follows {E : Type 0} (a b : ℕ → Showing E) (c : ℕ) : Type 0 where
  pub forward : (n : ℕ) → (a n).standing ≢ Stuck → (k : ℕ) × (k ≤ c * (n + 1)) × (b k ≡ a n)
  pub back : (k : ℕ) → (n : ℕ) × (((a n).standing ≡ Stuck) ⊎ IsBorneOut (a n) (b k))
