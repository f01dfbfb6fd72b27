-- Transition systems, and what they show after so many counted steps.
use Rattle.std.specs.Prelude.{ℕ, zero, suc, List, [], ◌++◌}
use Rattle.ckc_base.specs.Traces.{Standing, Going, Showing}

-- One step of a transition system: it goes on to a state, or halts, after these events.
pub data Move (E S : Type 0) : Type 0 where
  Goes : (events : List E) (next : S) → Move E S
  Halts : (events : List E) (standing : Standing) → Move E S

-- A transition system with events E and states S. The weight of a state is how many steps are counted before its
-- step shows itself, as one for each node of an expression that the step evaluates.
pub record System (E S : Type 0) : Type 0 where
  pub step : S → Move E S
  pub weight : S → ℕ

-- the showing that a move leads to, where go says what is shown from the next state on
abbrev pub after : {E S : Type 0} → (List E → S → Showing E) → List E → Move E S → Showing E
after go trace (Goes events next) = go (trace ++ events) next
after go trace (Halts events standing) = record { trace = trace ++ events; standing = standing }

-- what is shown n counted steps after a state that waits so many of them before its own step
unfoldable pub shown : {E S : Type 0} → System E S → ℕ → ℕ → List E → S → Showing E
shown m zero wait trace s = record { trace = trace; standing = Going }
shown m (suc n) zero trace s = after (λ events next. shown m n (m.weight next) events next) trace (m.step s)
shown m (suc n) (suc wait) trace s = shown m n wait trace s

-- The meaning of a start: what the system shows after n counted steps. Once it has halted it stays as it is.
abbrev pub meaning : {E S : Type 0} → System E S → S → ℕ → Showing E
meaning m s n = shown m n (m.weight s) [] s
