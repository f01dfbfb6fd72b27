-- A run after some steps, and after one more.
use Rattle.std.proofs.Common.{◌≡◌, ◌≢◌, ◌⊎◌, inl, inr, ℕ, zero, suc, ◌+◌, ◌≤◌, ◌<◌, List, [], ◌++◌, Option, Some, None, refl, sym, ◌∙◌, ap, subst, arith, append_assoc}
use Rattle.std.proofs.lemmas.Grind.{flat_map-append}
use Rattle.ckc_base.specs.declared.arithmetic.Mode.{Mode}
use Rattle.ckc_base.specs.declared.arithmetic.Mode.TheVariants.{Checked, Unchecked}
use Rattle.ckc_base.specs.declared.places.Pos.{Pos}
use Rattle.ckc_base.specs.States.{state_at, state_after, moved_on, Travels}
use Rattle.ckc_base.specs.Steps.{Move, Goes, Halts, System, shown}
use Rattle.ckc_base.specs.Traces.{Event, Standing, Going, Ended, Stopped, Stuck, Fault, Showing}
use Rattle.ckc_base.proofs.Runs.{shown-later, one_halt, then_closes}
use Rattle.ckc_base.proofs.Travelling.{one_travel, no_travel, then_travels}
use Rattle.ckc_source.specs.declared.stmt.Spot.{Spot}
use Rattle.ckc_source.specs.Code.{Program}
use Rattle.ckc_source.specs.States.{State}
use Rattle.ckc_source.specs.Steps.{source_step, spot_of}
use Rattle.ckc_source.specs.Source.{source, source_system, first_state, place_after, unchecked_since, first_unchecked, on_next, by_mode}
use Rattle.ckc_outside.specs.Given.{got_byte, taken, Streams, Showed}
use Rattle.ckc_outside.proofs.Giving.{showed_nothing, showed_both}
use Rattle.ckc_interp.specs.Runs.{GoesAt, Comes}
use Rattle.ckc_interp.specs.code.Turns.{noted}

-- ---- blame

first_none : (p : Program) (move : Move Event State) → on_next (first_unchecked p zero) move ≡ None
unfolding first_unchecked
first_none p (Goes events u) = refl
first_none p (Halts events standing) = refl

noted_one : (spot : Spot) (later : Option Pos) (mode : Mode) → later ≡ None → by_mode spot later mode ≡ by_mode spot None mode
noted_one spot later Unchecked e = refl
noted_one spot later Checked e = e

-- one more step, after a first one
noted_next : (spot : Spot) (mode : Mode) (next later : Option Pos) (last : Spot) → (mode ≡ Checked → later ≡ noted next last)
    → by_mode spot later mode ≡ noted (by_mode spot next mode) last
noted_next spot Unchecked next later last h = refl
noted_next spot Checked next later last h = h refl

checked_none : (spot : Spot) → spot.mode ≡ Checked → None ≡ by_mode spot None spot.mode
checked_none spot e = sym (ap (by_mode spot None) e)

after_move : (p : Program) (n : ℕ) (s : State) (move : Move Event State) → (spot_of s).mode ≡ Checked
    → ((u : State) → first_unchecked p (suc n) u ≡ noted (first_unchecked p n u) (spot_of (state_at (source_system p) u n)))
    → on_next (first_unchecked p (suc n)) move ≡ noted (on_next (first_unchecked p n) move) (spot_of (moved_on (λ u. state_at (source_system p) u n) s move))
after_move p n s (Goes events u) checked h = h u
after_move p n s (Halts events standing) checked h = checked_none (spot_of s) checked

pub first_unchecked-more : (p : Program) (n : ℕ) (s : State) → first_unchecked p (suc n) s ≡ noted (first_unchecked p n s) (spot_of (state_at (source_system p) s n))
unfolding first_unchecked state_after
first_unchecked-more p zero s = noted_one (spot_of s) (on_next (first_unchecked p zero) (source_step p s)) (spot_of s).mode (first_none p (source_step p s))
first_unchecked-more p (suc n) s =
    noted_next (spot_of s) (spot_of s).mode (on_next (first_unchecked p n) (source_step p s)) (on_next (first_unchecked p (suc n)) (source_step p s))
    (spot_of (moved_on (λ u. state_at (source_system p) u n) s (source_step p s)))
    (λ checked. after_move p n s (source_step p s) checked (λ u. first_unchecked-more p n u))

-- ---- what is taken

pub took_then : (given one two left left' : List ℕ) → given ≡ one ++ left → left ≡ two ++ left' → given ≡ (one ++ two) ++ left'
took_then given one two left left' e f = e ∙ ap (λ l. one ++ l) f ∙ sym (append_assoc one two left')

-- ---- where a run is

module _ (p : Program) (given : List ℕ) where
  abbrev pub system : System Event State
  system = source_system p

  abbrev pub start : State
  start = first_state p given

  -- After n steps, in each of which the program went on, it is in a state: what they put and took was put and taken.
  pub record IsAt (n : ℕ) (s : State) (old new : Streams) (blame : Option Pos) : Type 0 where
    pub trace : List Event
    pub travels : Travels system n trace start s
    pub showed : Showed old new trace
    pub took : given ≡ taken trace ++ s.input
    pub blame_is : blame ≡ unchecked_since p given n

  plus_none : (n : ℕ) → n + 0 ≡ n
  plus_none n = omega arith

  pub shows_at : (n : ℕ) (trace : List Event) (s : State) → Travels system n trace start s → source p given n ≡ record { trace = trace; standing = Going }
  unfolding shown
  shows_at n trace s t = ap (λ k. shown system k 0 [] start) (sym (plus_none n)) ∙ t.stretch.leads 0 []

  pub state_is : (n : ℕ) (trace : List Event) (s : State) → Travels system n trace start s → state_at system start n ≡ s
  unfolding state_after
  state_is n trace s t = ap (λ k. state_at system start k) (sym (plus_none n)) ∙ t.states 0

  taken_joins : (one two : List Event) → taken one ++ taken two ≡ taken (one ++ two)
  taken_joins one two = sym (flat_map-append got_byte one two)

  blame_next : (n : ℕ) (trace : List Event) (s : State) (blame blame' : Option Pos) → Travels system n trace start s → blame ≡ unchecked_since p given n → blame' ≡ noted blame (spot_of s)
      → blame' ≡ unchecked_since p given (suc n)
  blame_next n trace s blame blame' t e f =
      f ∙ ap (λ b. noted b (spot_of s)) e ∙ ap (λ u. noted (unchecked_since p given n) (spot_of u)) (sym (state_is n trace s t)) ∙ sym (first_unchecked-more p n start)

  pub at_start : (out : Streams) → IsAt 0 start out out None
  unfolding first_unchecked
  at_start out = record { trace = []; travels = no_travel system start; showed = showed_nothing out; took = refl; blame_is = refl }

  plus_one : (n : ℕ) → n + 1 ≡ suc n
  plus_one n = omega arith

  pub at_next : (n : ℕ) (s u : State) (old mid new : Streams) (blame blame' : Option Pos) (events : List Event)
      → IsAt n s old mid blame → source_step p s ≡ Goes events u → Showed mid new events → s.input ≡ taken events ++ u.input → blame' ≡ noted blame (spot_of s)
      → IsAt (n + 1) u old new blame'
  at_next n s u old mid new blame blame' events a e put took f = record {
    trace = a.trace ++ events;
    travels = then_travels system n 1 a.trace events start s u a.travels (one_travel system events s u e);
    showed = showed_both old mid new a.trace a.showed events put;
    took = subst (λ t. given ≡ t ++ u.input) (taken_joins a.trace events) (took_then given (taken a.trace) (taken events) s.input u.input a.took took);
    blame_is = blame_next n a.trace s blame blame' a.travels a.blame_is f ∙ ap (λ k. unchecked_since p given k) (sym (plus_one n));
  }

  going_or_not : (s : Standing) → (s ≡ Going) ⊎ (s ≢ Going)
  going_or_not Going = inl refl
  going_or_not (Ended value) = inr (λ e. cc)
  going_or_not (Stopped check at) = inr (λ e. cc)
  going_or_not Stuck = inr (λ e. cc)
  going_or_not (Fault kind pc) = inr (λ e. cc)

  pub goes_before : (n m : ℕ) → GoesAt p given n → m ≤ n → GoesAt p given m
  goes_before n m g h = elim (going_or_not (source p given m).standing) [
    | inl goes ↦ goes
    | inr halted ↦ sym (ap (λ (a : Showing Event). a.standing) ((shown-later system m n 0 [] start h).stays halted)) ∙ g
  ]

  pub goes_at : (n : ℕ) (s : State) (old new : Streams) (blame : Option Pos) → IsAt n s old new blame → GoesAt p given n
  goes_at n s old new blame a = ap (λ (x : Showing Event). x.standing) (shows_at n a.trace s a.travels)

  pub showed_at : (n : ℕ) (s : State) (old new : Streams) (blame : Option Pos) → IsAt n s old new blame → Showed old new (source p given n).trace
  showed_at n s old new blame a = subst (λ (x : Showing Event). Showed old new x.trace) (sym (shows_at n a.trace s a.travels)) a.showed

  pub took_at : (n : ℕ) (s : State) (old new : Streams) (blame : Option Pos) → IsAt n s old new blame → given ≡ taken (source p given n).trace ++ s.input
  took_at n s old new blame a = subst (λ (x : Showing Event). given ≡ taken x.trace ++ s.input) (sym (shows_at n a.trace s a.travels)) a.took

  pub comes_at : (n : ℕ) (s : State) (old new : Streams) (blame : Option Pos) → IsAt n s old new blame → Comes p given s.input n n old new Going
  comes_at n s old new blame a = record {
    within = omega arith;
    before = λ m h. goes_before n m (goes_at n s old new blame a) (omega arith);
    stands_so = goes_at n s old new blame a;
    showed = showed_at n s old new blame a;
    took = took_at n s old new blame a;
  }

  -- ---- a halt

  pub shows_halt : (n : ℕ) (trace events : List Event) (s : State) (standing : Standing) → Travels system n trace start s → source_step p s ≡ Halts events standing
      → source p given (suc n) ≡ record { trace = trace ++ events; standing = standing }
  shows_halt n trace events s standing t e =
      let count : suc n ≡ n + 1 + 0 = omega arith in
      ap (λ k. shown system k 0 [] start) count ∙ (then_closes system n 1 trace events start s standing t.stretch (one_halt system events s standing e)).shows 0 []

  halt_state : (n : ℕ) (trace events : List Event) (s : State) (standing : Standing) → Travels system n trace start s → source_step p s ≡ Halts events standing
      → state_at system start (suc n) ≡ s
  unfolding state_after
  halt_state n trace events s standing t e =
      ap (λ k. state_at system start k) (sym (plus_one n)) ∙ t.states 1 ∙ ap (moved_on (λ u. state_after system 0 0 u) s) e

  pub place_is : (n : ℕ) (s : State) (old new : Streams) (blame : Option Pos) (events : List Event) (standing : Standing)
      → IsAt n s old new blame → source_step p s ≡ Halts events standing → (spot_of s).at ≡ place_after p given (suc n)
  place_is n s old new blame events standing a e = ap (λ u. (spot_of u).at) (sym (halt_state n a.trace events s standing a.travels e))

  pub blame_is_next : (n : ℕ) (s : State) (old new : Streams) (blame blame' : Option Pos)
      → IsAt n s old new blame → blame' ≡ noted blame (spot_of s) → blame' ≡ unchecked_since p given (suc n)
  blame_is_next n s old new blame blame' a f = blame_next n a.trace s blame blame' a.travels a.blame_is f

  pub comes_over : (n limit : ℕ) (s : State) (old mid new : Streams) (blame : Option Pos) (events : List Event) (standing : Standing) (left : List ℕ)
      → n < limit → IsAt n s old mid blame → source_step p s ≡ Halts events standing → Showed mid new events → s.input ≡ taken events ++ left
      → Comes p given left limit (suc n) old new standing
  comes_over n limit s old mid new blame events standing left h a e put took =
      let shows = shows_halt n a.trace events s standing a.travels e in
      record {
        within = omega arith;
        before = λ m l. goes_before n m (goes_at n s old mid blame a) (omega arith);
        stands_so = ap (λ (x : Showing Event). x.standing) shows;
        showed = subst (λ (x : Showing Event). Showed old new x.trace) (sym shows) (showed_both old mid new a.trace a.showed events put);
        took = subst (λ (x : Showing Event). given ≡ taken x.trace ++ left) (sym shows)
            (subst (λ t. given ≡ t ++ left) (taken_joins a.trace events) (took_then given (taken a.trace) (taken events) s.input left a.took took));
      }
