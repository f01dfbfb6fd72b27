-- How a lower system goes beside an upper one, if each has events that the other does not show. Of both only what
-- is seen is compared: f gives what is seen of an upper event, and g what is seen of a lower one, perhaps nothing.
use Rattle.std.specs.Prelude.{◌≡◌, ◌⊎◌, ℕ, ◌≤◌, ◌<◌, List, [], All, flat_map}
use Rattle.ckc_base.specs.Traces.{Standing, Stuck}
use Rattle.ckc_base.specs.Follows.{IsOver}
use Rattle.ckc_base.specs.Steps.{Move, Goes, Halts, System}
use Rattle.ckc_base.specs.Matching.{Closes}
use Rattle.ckc_base.specs.States.{state_at, Travels}

-- What lower steps may do while the upper system stands at one state: their events are allowed there, and the states
-- that they leave stand beside it.
pub record Keeps {F T : Type 0} (b : System F T) (May : F → Type 0) (Beside : T → Type 0) (count : ℕ) (events : List F) (t : T) : Type 0 where
  pub allowed : All May events
  pub beside : (j : ℕ) → j < count → Beside (state_at b t j)

-- From a near state t the lower system comes to u, in at most so many steps of which nothing is seen.
pub record Nears {F G T : Type 0} (b : System F T) (g : F → List G) (May : F → Type 0) (Beside : T → Type 0) (most : ℕ) (t u : T) : Type 0 where
  pub count : ℕ
  pub events : List F
  pub few : count ≤ most
  pub travels : Travels b count events t u
  pub unseen : flat_map g events ≡ []
  pub keeps : Keeps b May Beside count events t

-- One move of the upper system from the state s is simulated by the lower one from the state t, in at most `most`
-- steps: the lower system travels, with the same to be seen, to a state that is near to the one related to the next
-- state, in at least one step unless a measure falls; or it halts with the same standing. Nothing is asked if the
-- upper system is stuck.
pub record Simulates {E F G S T : Type 0} (b : System F T) (f : E → List G) (g : F → List G) (May : S → F → Type 0) (Beside : S → T → Type 0)
    (R : S → T → Type 0) (measure : S → ℕ) (near most : ℕ) (s : S) (t : T) (events : List E) (next : S) : Type 0 where
  pub count : ℕ
  pub lower : List F
  pub via : T
  pub to : T
  pub few : count ≤ most
  pub goes_on : (1 ≤ count) ⊎ (measure next < measure s)
  pub travels : Travels b count lower t via
  pub seen : flat_map g lower ≡ flat_map f events
  pub keeps : Keeps b (May s) (Beside s) count lower t
  pub nears : Nears b g (May next) (Beside next) near via to
  pub related : R next to

pub record SimulatesHalt {E F G S T : Type 0} (b : System F T) (f : E → List G) (g : F → List G) (May : S → F → Type 0) (Beside : S → T → Type 0)
    (most : ℕ) (s : S) (t : T) (events : List E) (standing : Standing) : Type 0 where
  pub count : ℕ
  pub lower : List F
  pub few : count ≤ most
  pub over : IsOver standing
  pub closes : Closes b count lower t standing
  pub seen : flat_map g lower ≡ flat_map f events
  pub allowed : All (May s) lower
  pub beside : (j : ℕ) → Beside s (state_at b t j)

abbrev pub SimulatedBy : {E F G S T : Type 0} → System F T → (E → List G) → (F → List G) → (S → F → Type 0) → (S → T → Type 0)
    → (S → T → Type 0) → (S → ℕ) → ℕ → ℕ → S → T → Move E S → Type 0
SimulatedBy b f g May Beside R measure near most s t (Goes events next) =
    Simulates b f g May Beside R measure near most s t events next
SimulatedBy b f g May Beside R measure near most s t (Halts events standing) =
    (standing ≡ Stuck) ⊎ SimulatesHalt b f g May Beside most s t events standing
