-- Where a machine stands after so many instructions.
use Rattle.std.proofs.Common.{◌≡◌, ◌≢◌, ◌⊎◌, inl, inr, ℕ, zero, suc, ◌+◌, ◌≤◌, List, [], ◌++◌, length, drop, refl, sym, ap, subst, ◌∙◌, arith, append_assoc, append-nil, replicate}
use Rattle.std.proofs.Math.Seq.{drop-append_seam}
use Rattle.std.proofs.lemmas.Grind.{flat_map-append}
use Rattle.ckc_base.specs.Traces.{Event, Standing, Going, Ended, Stopped, Stuck, Fault, Showing}
use Rattle.ckc_base.specs.Steps.{Move, Goes, Halts, System, shown}
use Rattle.ckc_base.specs.Matching.{Stretch, Closes}
use Rattle.ckc_base.proofs.Runs.{one_step, one_halt, no_step, then_stretch, then_closes, shown-later}
use Rattle.ckc_rv.specs.Machine.{Parts, State, Memory, flat, first_state, machine, machine_system, machine_step}
use Rattle.ckc_machine.specs.Points.{next_state, state_at, since, got_byte, taken}
use Rattle.ckc_machine.proofs.Moving.{Proper, proper_goes, proper_halts, step_proper}

pub start_state : (parts : Parts) (input : List ℕ) (memory : Memory) (pc : ℕ) → memory ≡ flat parts → parts.entry ≡ pc
    → record { x = replicate 32 0; pc = pc; memory = memory; input = (state_at parts input 0).input } ≡ state_at parts input 0
unfolding state_at
start_state parts input memory pc e f = ap (λ (m : Memory). record { x = replicate 32 0; pc = pc; memory = m; input = input }) e ∙ ap (λ p. record { x = replicate 32 0; pc = p; memory = flat parts; input = input }) (sym f)

pub start_input : (parts : Parts) (input : List ℕ) → (state_at parts input 0).input ≡ input
unfolding state_at
start_input parts input = refl

pub start_shows : (parts : Parts) (input : List ℕ) → machine parts input 0 ≡ record { trace = []; standing = Going }
unfolding shown
start_shows parts input = refl

-- ---- one instruction more

pub going_or_not : (s : Standing) → (s ≡ Going) ⊎ (s ≢ Going)
going_or_not Going = inl refl
going_or_not (Ended value) = inr (λ e. cc)
going_or_not (Stopped check at) = inr (λ e. cc)
going_or_not Stuck = inr (λ e. cc)
going_or_not (Fault kind pc) = inr (λ e. cc)

module _ (parts : Parts) (input : List ℕ) where
  abbrev system : System Event State
  system = machine_system parts

  abbrev start : State
  start = first_state parts input

  abbrev at : ℕ → State
  at k = state_at parts input k

  abbrev shows : ℕ → Showing Event
  shows k = machine parts input k

  after_stretch : (n count : ℕ) (events : List Event) (u : State) → n ≡ count + 0 → Stretch system count events start u → shows n ≡ record { trace = events; standing = Going }
  unfolding shown
  after_stretch n count events u e s = ap (λ j. shown system j 0 [] start) e ∙ s.leads 0 []

  after_close : (n count : ℕ) (events : List Event) (standing : Standing) → n ≡ count + 0 → Closes system count events start standing → shows n ≡ record { trace = events; standing = standing }
  after_close n count events standing e s = ap (λ j. shown system j 0 [] start) e ∙ s.shows 0 []

  pub next_goes : (k : ℕ) (events : List Event) (next : State) → machine_step parts (at k) ≡ Goes events next → at (suc k) ≡ next
  unfolding state_at
  next_goes k events next e = ap (next_state (at k)) e

  pub next_halts : (k : ℕ) (events : List Event) (standing : Standing) → machine_step parts (at k) ≡ Halts events standing → at (suc k) ≡ at k
  unfolding state_at
  next_halts k events standing e = ap (next_state (at k)) e

  stretch_goes : (k : ℕ) (trace events : List Event) (next : State) → Stretch system k trace start (at k) → machine_step parts (at k) ≡ Goes events next → Stretch system (k + 1) (trace ++ events) start next
  stretch_goes k trace events next s e = then_stretch system k 1 trace events start (at k) next s (one_step system events (at k) next e)

  close_halts : (k : ℕ) (trace events : List Event) (standing : Standing) → Stretch system k trace start (at k) → machine_step parts (at k) ≡ Halts events standing → Closes system (k + 1) (trace ++ events) start standing
  close_halts k trace events standing s e = then_closes system k 1 trace events start (at k) standing s (one_halt system events (at k) standing e)

  shows_goes : (k : ℕ) (trace events : List Event) (next : State) → Stretch system k trace start (at k) → machine_step parts (at k) ≡ Goes events next → shows (suc k) ≡ record { trace = trace ++ events; standing = Going }
  shows_goes k trace events next s e = after_stretch (suc k) (k + 1) (trace ++ events) next (omega arith) (stretch_goes k trace events next s e)

  shows_halts : (k : ℕ) (trace events : List Event) (standing : Standing) → Stretch system k trace start (at k) → machine_step parts (at k) ≡ Halts events standing → shows (suc k) ≡ record { trace = trace ++ events; standing = standing }
  shows_halts k trace events standing s e = after_close (suc k) (k + 1) (trace ++ events) standing (omega arith) (close_halts k trace events standing s e)

  -- while the machine goes on, its state is reached with its trace
  reach_next : (k : ℕ) (move : Move Event State) → Stretch system k (shows k).trace start (at k) → machine_step parts (at k) ≡ move → Proper (at k) move → (shows (suc k)).standing ≡ Going
      → Stretch system (suc k) (shows (suc k)).trace start (at (suc k))
  reach_next k (Goes events next) s e p going =
      let t = (shows k).trace in
      let shown_next = shows_goes k t events next s e in
      let count : k + 1 ≡ suc k = omega arith in
      subst (λ (c : ℕ). Stretch system c (shows (suc k)).trace start (at (suc k))) count
      (subst (λ (x : List Event). Stretch system (k + 1) x start (at (suc k))) (sym (ap (λ (a : Showing Event). a.trace) shown_next))
      (subst (λ (u : State). Stretch system (k + 1) (t ++ events) start u) (sym (next_goes k events next e)) (stretch_goes k t events next s e)))
  reach_next k (Halts events standing) s e p going =
      absurd ((proper_halts (at k) events standing p).0 (sym (ap (λ (a : Showing Event). a.standing) (shows_halts k (shows k).trace events standing s e)) ∙ going))

  shows_stay : (k : ℕ) → (shows k).standing ≢ Going → shows (suc k) ≡ shows k
  shows_stay k h = (shown-later system k (suc k) 0 [] start (omega arith)).stays h

  reach : (k : ℕ) → (shows k).standing ≡ Going → Stretch system k (shows k).trace start (at k)
  unfolding shown state_at
  reach zero h = no_step system start
  reach (suc k) h = elim (going_or_not (shows k).standing) [
    | inl going ↦ reach_next k (machine_step parts (at k)) (reach k going) refl (step_proper parts (at k)) h
    | inr halted ↦ absurd (halted (sym (ap (λ (a : Showing Event). a.standing) (shows_stay k halted)) ∙ h))
  ]

  -- a machine that goes on shows its next move
  pub goes_on : (k : ℕ) (events : List Event) (next : State) → (shows k).standing ≡ Going → machine_step parts (at k) ≡ Goes events next → shows (suc k) ≡ record { trace = (shows k).trace ++ events; standing = Going }
  goes_on k events next h e = shows_goes k (shows k).trace events next (reach k h) e

  pub halts_then : (k : ℕ) (events : List Event) (standing : Standing) → (shows k).standing ≡ Going → machine_step parts (at k) ≡ Halts events standing → shows (suc k) ≡ record { trace = (shows k).trace ++ events; standing = standing }
  halts_then k events standing h e = shows_halts k (shows k).trace events standing (reach k h) e

  -- the move of a machine that has halted halts
  halted_next : (k : ℕ) (move : Move Event State) → (shows k).standing ≡ Going → machine_step parts (at k) ≡ move → (shows (suc k)).standing ≢ Going
      → (events : List Event) × (standing : Standing) × (machine_step parts (at (suc k)) ≡ Halts events standing)
  halted_next k (Goes events next) g e h = absurd (h (ap (λ (a : Showing Event). a.standing) (goes_on k events next g e)))
  halted_next k (Halts events standing) g e h = (events, standing, ap (machine_step parts) (next_halts k events standing e) ∙ e)

  pub halted : (k : ℕ) → (shows k).standing ≢ Going → (events : List Event) × (standing : Standing) × (machine_step parts (at k) ≡ Halts events standing)
  unfolding shown
  halted zero h = absurd (h refl)
  halted (suc k) h = elim (going_or_not (shows k).standing) [
    | inl g ↦ halted_next k (machine_step parts (at k)) g refl h
    | inr n ↦ let p = halted k n in (p.0, p.1, ap (machine_step parts) (next_halts k p.0 p.1 p.2) ∙ p.2)
  ]

  -- what has halted stays as it is
  pub stays : (d k : ℕ) → (shows k).standing ≢ Going → (shows (k + d) ≡ shows k) × (at (k + d) ≡ at k)
  stays zero k h = let e : k + 0 ≡ k = omega arith in (ap shows e, ap at e)
  stays (suc d) k h =
      let before = stays d k h in
      let e : k + suc d ≡ suc (k + d) = omega arith in
      let still : (shows (k + d)).standing ≢ Going = subst (λ (a : Showing Event). a.standing ≢ Going) (sym before.0) h in
      let p = halted (k + d) still in
      (ap shows e ∙ shows_stay (k + d) still ∙ before.0, ap at e ∙ next_halts (k + d) p.0 p.1 p.2 ∙ before.1)

  -- ---- what came since

  since_rest : (k j : ℕ) (rest : List Event) → (shows j).trace ≡ (shows k).trace ++ rest → since parts input k j ≡ rest
  since_rest k j rest e = ap (drop (length (shows k).trace)) e ∙ drop-append_seam (shows k).trace rest

  trace_grows : (k j : ℕ) → k ≤ j → (rest : List Event) × ((shows j).trace ≡ (shows k).trace ++ rest)
  trace_grows k j h = (shown-later system k j 0 [] start h).begins

  pub trace_since : (k j : ℕ) → k ≤ j → (shows j).trace ≡ (shows k).trace ++ since parts input k j
  trace_since k j h = let p = trace_grows k j h in p.1 ∙ ap (λ r. (shows k).trace ++ r) (sym (since_rest k j p.0 p.1))

  pub since_self : (k : ℕ) → since parts input k k ≡ []
  since_self k = since_rest k k [] (sym (append-nil (shows k).trace))

  pub since_joins : (k j l : ℕ) → k ≤ j → j ≤ l → since parts input k l ≡ since parts input k j ++ since parts input j l
  since_joins k j l h m = since_rest k l (since parts input k j ++ since parts input j l)
      (trace_since j l m ∙ ap (λ t. t ++ since parts input j l) (trace_since k j h) ∙ append_assoc (shows k).trace (since parts input k j) (since parts input j l))

  pub since_goes : (k : ℕ) (events : List Event) (next : State) → (shows k).standing ≡ Going → machine_step parts (at k) ≡ Goes events next → since parts input k (suc k) ≡ events
  since_goes k events next h e = since_rest k (suc k) events (ap (λ (a : Showing Event). a.trace) (goes_on k events next h e))

  pub since_halts : (k : ℕ) (standing : Standing) → (shows k).standing ≡ Going → machine_step parts (at k) ≡ Halts [] standing → since parts input k (suc k) ≡ []
  since_halts k standing h e = since_rest k (suc k) [] (ap (λ (a : Showing Event). a.trace) (halts_then k [] standing h e))

  pub since_stays : (k d : ℕ) → (shows k).standing ≢ Going → since parts input k (k + d) ≡ []
  since_stays k d h = since_rest k (k + d) [] (ap (λ (a : Showing Event). a.trace) (stays d k h).0 ∙ sym (append-nil (shows k).trace))

  -- ---- what was taken

  takes_next : (k : ℕ) (move : Move Event State) → machine_step parts (at k) ≡ move → (shows k).standing ≡ Going → Proper (at k) move → (at k).input ≡ taken (since parts input k (suc k)) ++ (at (suc k)).input
  takes_next k (Goes events next) e h p =
      proper_goes (at k) events next p ∙ ap (λ t. taken t ++ next.input) (sym (since_goes k events next h e)) ∙ ap (λ (u : State). taken (since parts input k (suc k)) ++ u.input) (sym (next_goes k events next e))
  takes_next k (Halts events standing) e h p =
      let none = (proper_halts (at k) events standing p).1 in
      let e' : machine_step parts (at k) ≡ Halts [] standing = e ∙ ap (λ l. Halts l standing) none in
      ap (λ (u : State). u.input) (sym (next_halts k events standing e)) ∙ ap (λ t. taken t ++ (at (suc k)).input) (sym (since_halts k standing h e'))

  takes_one : (k : ℕ) → (at k).input ≡ taken (since parts input k (suc k)) ++ (at (suc k)).input
  takes_one k = elim (going_or_not (shows k).standing) as (λ _. (at k).input ≡ taken (since parts input k (suc k)) ++ (at (suc k)).input) [
    | inl g ↦ takes_next k (machine_step parts (at k)) refl g (step_proper parts (at k))
    | inr n ↦
        let one : k + 1 ≡ suc k = omega arith in
        let same : at (suc k) ≡ at k = subst (λ j. at j ≡ at k) one (stays 1 k n).1 in
        let none : since parts input k (suc k) ≡ [] = subst (λ j. since parts input k j ≡ []) one (since_stays k 1 n) in
        ap (λ (u : State). u.input) (sym same) ∙ ap (λ t. taken t ++ (at (suc k)).input) (sym none)
  ]

  pub takes : (d k : ℕ) → (at k).input ≡ taken (since parts input k (k + d)) ++ (at (k + d)).input
  takes zero k =
      let e : k ≡ k + 0 = omega arith in
      subst (λ j. (at k).input ≡ taken (since parts input k j) ++ (at j).input) e (ap (λ t. taken t ++ (at k).input) (sym (since_self k)))
  takes (suc d) k =
      let e : suc (k + d) ≡ k + suc d = omega arith in
      let j = k + d in
      let joined : taken (since parts input k j) ++ taken (since parts input j (suc j)) ≡ taken (since parts input k (suc j)) =
      sym (flat_map-append got_byte (since parts input k j) (since parts input j (suc j))) ∙ ap taken (sym (since_joins k j (suc j) (omega arith) (omega arith))) in
      subst (λ l. (at k).input ≡ taken (since parts input k l) ++ (at l).input) e
      (takes d k ∙ ap (λ l. taken (since parts input k j) ++ l) (takes_one j) ∙ sym (append_assoc (taken (since parts input k j)) (taken (since parts input j (suc j))) (at (suc j)).input)
      ∙ ap (λ l. l ++ (at (suc j)).input) joined)

-- ---- the laws

pub since_start : (parts : Parts) (input : List ℕ) (k : ℕ) → since parts input 0 k ≡ (machine parts input k).trace
since_start parts input k =
    sym (trace_since parts input 0 k (omega arith) ∙ ap (λ (a : Showing Event). a.trace ++ since parts input 0 k) (start_shows parts input))

pub input_taken : (parts : Parts) (input : List ℕ) (k : ℕ) → input ≡ taken (machine parts input k).trace ++ (state_at parts input k).input
input_taken parts input k =
    let e : 0 + k ≡ k = omega arith in
    sym (start_input parts input) ∙ subst (λ j. (state_at parts input 0).input ≡ taken (since parts input 0 j) ++ (state_at parts input j).input) e (takes parts input k 0)
    ∙ ap (λ t. taken t ++ (state_at parts input k).input) (since_start parts input k)
