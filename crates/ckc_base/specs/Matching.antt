use Rattle.std.specs.Prelude.{◌≡◌, ◌⊎◌, ℕ, ◌+◌, ◌≤◌, ◌<◌, List, ◌++◌}
use Rattle.ckc_base.specs.Traces.{Standing, Stuck}
use Rattle.ckc_base.specs.Follows.{IsOver}
use Rattle.ckc_base.specs.Steps.{Move, Goes, Halts, System, shown}

-- In count steps the system goes from s to u with these events, whatever came before.
pub record Stretch {E S : Type 0} (m : System E S) (count : ℕ) (events : List E) (s u : S) : Type 0 where
  pub leads : (n : ℕ) (trace : List E) → shown m (count + n) (m.weight s) trace s ≡ shown m n (m.weight u) (trace ++ events) u

-- In count steps the system halts from s with these events.
pub record Closes {E S : Type 0} (m : System E S) (count : ℕ) (events : List E) (s : S) (standing : Standing) : Type 0 where
  pub shows : (n : ℕ) (trace : List E) → shown m (count + n) (m.weight s) trace s ≡ record { trace = trace ++ events; standing = standing }

-- One move of the upper system, from the state s, is matched by the lower one from the state t in at most `most`
-- steps: by a stretch with the same events to the next pair of states, of at least one step unless a measure
-- falls; or by a halt with the same standing. Nothing is asked if the upper system is stuck.
-- A pair of states that belong together is a p, and upper p and lower p are the two.
abbrev pub MatchedBy : {E S T P : Type 0} → System E T → (P → S) → (P → T) → (S → ℕ) → S → T → ℕ → Move E S → Type 0
MatchedBy {E} {S} {T} {P} m upper lower measure s t most (Goes events next) =
    (count : ℕ) × (p : P) × (count ≤ most) × ((1 ≤ count) ⊎ (measure next < measure s)) × Stretch m count events t (lower p) × (upper p ≡ next)
MatchedBy {E} {S} {T} {P} m upper lower measure s t most (Halts events standing) =
    (standing ≡ Stuck) ⊎ ((count : ℕ) × (count ≤ most) × IsOver standing × Closes m count events t standing)
