-- The state of a transition system after so many counted steps.
use Rattle.std.specs.Prelude.{◌≡◌, ℕ, zero, suc, ◌+◌, List}
use Rattle.ckc_base.specs.Steps.{Move, Goes, Halts, System}
use Rattle.ckc_base.specs.Matching.{Stretch}

-- the state that a move leads to, where go says what comes of the next state; a halt stays where it is
abbrev pub moved_on : {E S : Type 0} → (S → S) → S → Move E S → S
moved_on go s (Goes events next) = go next
moved_on go s (Halts events standing) = s

-- The state n counted steps after a state that waits so many of them before its own step. It stays while it waits,
-- and once the system has halted it stays the last one.
unfoldable pub state_after : {E S : Type 0} → System E S → ℕ → ℕ → S → S
state_after m zero wait s = s
state_after m (suc n) zero s = moved_on (λ next. state_after m n (m.weight next) next) s (m.step s)
state_after m (suc n) (suc wait) s = state_after m n wait s

-- the state of a run, n counted steps after its start
abbrev pub state_at : {E S : Type 0} → System E S → S → ℕ → S
state_at m s n = state_after m n (m.weight s) s

-- In count steps the system goes from s to u with these events, in what it shows and in its states.
pub record Travels {E S : Type 0} (m : System E S) (count : ℕ) (events : List E) (s u : S) : Type 0 where
  pub stretch : Stretch m count events s u
  pub states : (n : ℕ) → state_at m s (count + n) ≡ state_at m u n
