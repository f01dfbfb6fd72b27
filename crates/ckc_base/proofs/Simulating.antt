-- A lower system that simulates an upper one, with near states, follows it in what is seen.
use Rattle.std.proofs.Common.{◌≡◌, ◌⊎◌, inl, inr, ℕ, ◌+◌, ◌*◌, ◌≤◌, ◌<◌, List, [], ◌++◌, sym, ◌∙◌, ap, subst, arith}
use Rattle.std.specs.Prelude.{flat_map}
use Rattle.std.proofs.lemmas.List.Elements.{All-append}
use Rattle.std.proofs.lemmas.Grind.{flat_map-append}
use Rattle.ckc_base.specs.Traces.{Standing, Stuck, narrowed}
use Rattle.ckc_base.specs.Follows.{Follows}
use Rattle.ckc_base.specs.Steps.{Move, Goes, Halts, System, meaning}
use Rattle.ckc_base.specs.Matching.{Stretch, Closes}
use Rattle.ckc_base.specs.States.{state_at, Travels}
use Rattle.ckc_base.specs.Simulation.{Keeps, Nears, Simulates, SimulatesHalt, SimulatedBy}
use Rattle.ckc_base.proofs.Runs.{Matched, then_closes, follows_by_steps}
use Rattle.ckc_base.proofs.Travelling.{below_or_from, then_travels, then_keeps}
use Rattle.ckc_base.proofs.Seeing.{seen_move, seen_system, stretch_seen, closes_seen, follows_seen}

-- the lower state is near to one that is related
pub record Near {F G S T : Type 0} (b : System F T) (g : F → List G) (May : S → F → Type 0) (Beside : S → T → Type 0) (R : S → T → Type 0) (near : ℕ) (s : S) (t : T) : Type 0 where
  pub to : T
  pub nears : Nears b g (May s) (Beside s) near t to
  pub related : R s to

-- a move from a near state, simulated whole, up to the next near state
pub record Whole {E F G S T : Type 0} (b : System F T) (f : E → List G) (g : F → List G) (May : S → F → Type 0) (Beside : S → T → Type 0)
    (R : S → T → Type 0) (measure : S → ℕ) (near most : ℕ) (s : S) (t : T) (events : List E) (next : S) : Type 0 where
  pub count : ℕ
  pub lower : List F
  pub to : T
  pub few : count ≤ most
  pub goes_on : (1 ≤ count) ⊎ (measure next < measure s)
  pub travels : Travels b count lower t to
  pub seen : flat_map g lower ≡ flat_map f events
  pub keeps : Keeps b (May s) (Beside s) count lower t
  pub nearby : Near b g May Beside R near next to

abbrev pub WholeBy : {E F G S T : Type 0} → System F T → (E → List G) → (F → List G) → (S → F → Type 0) → (S → T → Type 0)
    → (S → T → Type 0) → (S → ℕ) → ℕ → ℕ → S → T → Move E S → Type 0
WholeBy b f g May Beside R measure near most s t (Goes events next) =
    Whole b f g May Beside R measure near most s t events next
WholeBy b f g May Beside R measure near most s t (Halts events standing) =
    (standing ≡ Stuck) ⊎ SimulatesHalt b f g May Beside most s t events standing

later_goes : (c d : ℕ) {A : Type 0} → (1 ≤ d) ⊎ A → (1 ≤ c + d) ⊎ A
later_goes c d (inl h) = inl (omega arith)
later_goes c d (inr a) = inr a

module _ {E F G S T : Type 0} (b : System F T) (f : E → List G) (g : F → List G) (May : S → F → Type 0) (Beside : S → T → Type 0)
    (R : S → T → Type 0) (measure : S → ℕ) (near most : ℕ) where
  hidden_in_front : (hidden seen : List F) (events : List E) → flat_map g hidden ≡ [] → flat_map g seen ≡ flat_map f events → flat_map g (hidden ++ seen) ≡ flat_map f events
  hidden_in_front hidden seen events h e =
      flat_map-append g hidden seen ∙ ap (λ x. x ++ flat_map g seen) h ∙ e

  whole_goes : (s : S) (t u : T) (events : List E) (next : S) → Nears b g (May s) (Beside s) near t u
      → Simulates b f g May Beside R measure near most s u events next
      → Whole b f g May Beside R measure near (near + most) s t events next
  whole_goes s t u events next n m = record {
    count = n.count + m.count;
    lower = n.events ++ m.lower;
    to = m.via;
    few = omega (arith, n.few, m.few);
    goes_on = later_goes n.count m.count m.goes_on;
    travels = then_travels b n.count m.count n.events m.lower t u m.via n.travels m.travels;
    seen = hidden_in_front n.events m.lower events n.unseen m.seen;
    keeps = then_keeps b (May s) (Beside s) n.count m.count n.events m.lower t u n.travels n.keeps m.keeps;
    nearby = record { to = m.to; nears = m.nears; related = m.related };
  }

  whole_halts : (s : S) (t u : T) (events : List E) (standing : Standing) → Nears b g (May s) (Beside s) near t u
      → SimulatesHalt b f g May Beside most s u events standing
      → SimulatesHalt b f g May Beside (near + most) s t events standing
  whole_halts s t u events standing n m = record {
    count = n.count + m.count;
    lower = n.events ++ m.lower;
    few = omega (arith, n.few, m.few);
    over = m.over;
    closes = then_closes b n.count m.count n.events m.lower t u standing n.travels.stretch m.closes;
    seen = hidden_in_front n.events m.lower events n.unseen m.seen;
    allowed = All-append (May s) n.events m.lower n.keeps.allowed m.allowed;
    beside = λ j. elim (below_or_from j n.count) [
      | inl less ↦ n.keeps.beside j less
      | inr r ↦
          let e : state_at b t j ≡ state_at b u r.0 = ap (state_at b t) r.1 ∙ n.travels.states r.0 in
          subst (Beside s) (sym e) (m.beside r.0)
    ];
  }

  -- a move that is simulated from a related state is simulated from a near one
  pub whole_from_near : (s : S) (t u : T) (move : Move E S) → Nears b g (May s) (Beside s) near t u
      → SimulatedBy b f g May Beside R measure near most s u move → WholeBy b f g May Beside R measure near (near + most) s t move
  whole_from_near s t u (Goes events next) n m = whole_goes s t u events next n m
  whole_from_near s t u (Halts events standing) n (inl stuck) = inl stuck
  whole_from_near s t u (Halts events standing) n (inr m) = inr (whole_halts s t u events standing n m)

  -- in what is seen such a move is matched
  matched_whole : (s : S) (t : T) (c : ℕ) (move : Move E S) → near + most ≤ c
      → WholeBy b f g May Beside R measure near (near + most) s t move
      → Matched (seen_system g b) (Near b g May Beside R near) measure s t c (seen_move f move)
  matched_whole s t c (Goes events next) h m = (
    m.count,
    m.to,
    omega (arith, m.few),
    m.goes_on,
    subst (λ es. Stretch (seen_system g b) m.count es t m.to) m.seen (stretch_seen g b m.count m.lower t m.to m.travels.stretch),
    m.nearby,
  )
  matched_whole s t c (Halts events standing) h (inl stuck) = inl stuck
  matched_whole s t c (Halts events standing) h (inr m) = inr (
    m.count,
    omega (arith, m.few),
    m.over,
    subst (λ es. Closes (seen_system g b) m.count es t standing) m.seen (closes_seen g b m.count m.lower t standing m.closes),
  )

-- If each move is simulated from related states, the lower system follows the upper one in what is seen, from
-- each near state.
pub follows_by_simulation : {E F G S T : Type 0} (a : System E S) (b : System F T) (f : E → List G) (g : F → List G) (May : S → F → Type 0)
    (Beside : S → T → Type 0) (R : S → T → Type 0) (measure : S → ℕ) (near : ℕ) (most : S → ℕ) (c : ℕ)
    → ((s : S) → near + most s ≤ c * (a.weight s + 1))
    → ((s : S) (t : T) → R s t → SimulatedBy b f g May Beside R measure near (most s) s t (a.step s))
    → (s : S) (t : T) → Near b g May Beside R near s t
    → Follows (λ n. narrowed f (meaning a s n)) (λ k. narrowed g (meaning b t k)) c
follows_by_simulation {E} {F} {G} {S} {T} a b f g May Beside R measure near most c room simulates s t n =
    follows_seen f g a b s t c
    (follows_by_steps (seen_system f a) (seen_system g b) (Near b g May Beside R near) measure c
    (λ s t (n : Near b g May Beside R near s t). matched_whole b f g May Beside R measure near (most s) s t (c * (a.weight s + 1)) (a.step s) (room s)
    (whole_from_near b f g May Beside R measure near (most s) s t n.to (a.step s) n.nears (simulates s n.to n.related)))
    s t n)
