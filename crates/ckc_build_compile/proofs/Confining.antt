-- The steps of the machine are listed beside those of the source program, by way of core code and placed code.
use Rattle.std.proofs.Common.{◌≡◌, ◌⊎◌, inl, inr, ℕ, zero, suc, ◌+◌, ◌≤◌, ◌<◌, ◌==◌, List, [], ◌∷◌, ◌++◌, append-nil, refl, sym, ◌∙◌, ap, subst, arith}
use Rattle.std.specs.Prelude.{Bool, true, false, nat_lt, ◌&&◌, ◌||◌, if◌then◌else◌, IsTrue, All, flat_map}
use Rattle.std.proofs.lemmas.Bool.{eqb-true}
use Rattle.std.proofs.lemmas.List.{append_cancel_left}
use Rattle.std.proofs.lemmas.List.Elements.{All-nil, All-cons, All-head, All-tail}
use Rattle.std.proofs.lemmas.Grind.{flat_map-append}
use Rattle.ckc_base.specs.declared.arithmetic.Width.{Width}
use Rattle.ckc_base.specs.declared.arithmetic.Width.TheVariants.{Byte, Word}
use Rattle.ckc_base.specs.Follows.{IsPrefix}
use Rattle.ckc_base.specs.Listing.{Listing}
use Rattle.ckc_base.specs.LongEvents.{LongEvent, Plain, Stored, Entered, Returned, plain_events, data_events}
use Rattle.ckc_base.specs.Memory.{is_data, width_bytes}
use Rattle.ckc_base.specs.States.{state_at}
use Rattle.ckc_base.specs.Steps.{shown, meaning}
use Rattle.ckc_base.specs.Traces.{Event}
use Rattle.ckc_base.proofs.Travelling.{below_or_from}
use Rattle.ckc_source.specs.Code as source
use Rattle.ckc_source.specs.Source.{source_system}
use Rattle.ckc_source.specs.Source as S
use Rattle.ckc_source.specs.States as T
use Rattle.ckc_core.specs.Code as core
use Rattle.ckc_core.specs.Meaning as C
use Rattle.ckc_frame.specs.declared.code.Placed.{Placed}
use Rattle.ckc_frame.specs.Meaning as F
use Rattle.ckc_emit.specs.Stores.{data_store, seen_events, is_in_frame, may_do}
use Rattle.ckc_rv.specs.Detailed.{MachineEvent, Outside, Wrote, outside_events, detailed_system}
use Rattle.ckc_rv.specs.Machine as M
use Rattle.ckc_checks_follow.specs.Stores.{MayDo, AreLevel}
use Rattle.ckc_build_compile.specs.Confined.{IsInFrame, MayWrite}
use Rattle.ckc_base.proofs.Joining.{Grows, data_in, seen_more, SameCalls, Quietly, Showing, Joined, joins, joined_rises}
use Rattle.ckc_base.proofs.Counting.{run_grows, active_counted, same_active}
use Rattle.ckc_build_compile.proofs.Events.{core_fine, placed_fine, machine_short}

-- ---- events

-- input and output are seen in the same way through the data events
plain_data : (events : List LongEvent) → flat_map plain_events (data_in events) ≡ flat_map plain_events events
plain_data [] = refl
plain_data (Plain event ∷ events) = ap (λ l. event ∷ l) (plain_data events)
plain_data (Stored at width value ∷ events) = plain_data events
plain_data (Entered ∷ events) = plain_data events
plain_data (Returned ∷ events) = plain_data events

no_plain : (at count value : ℕ) (there one four : Bool)
    → flat_map plain_events (if there then (if one then Stored at Byte value ∷ [] else if four then Stored at Word value ∷ [] else []) else []) ≡ []
no_plain at count value true true four = refl
no_plain at count value true false true = refl
no_plain at count value true false false = refl
no_plain at count value false one four = refl

outside_seen : (events : List MachineEvent) → flat_map plain_events (flat_map seen_events events) ≡ flat_map outside_events events
outside_seen [] = refl
outside_seen (Outside event ∷ events) = ap (λ l. event ∷ l) (outside_seen events)
outside_seen (Wrote at count value ∷ events) =
    flat_map-append plain_events (data_store at count value) (flat_map seen_events events)
    ∙ ap (λ l. l ++ flat_map plain_events (flat_map seen_events events)) (no_plain at count value (is_data at) (count == 1) (count == 4))
    ∙ outside_seen events

-- what the store of a machine shows, by the tests on it
abbrev store_seen : (at value : ℕ) (there one four : Bool) → List LongEvent
store_seen at value there one four =
    if there then (if one then Stored at Byte value ∷ [] else if four then Stored at Word value ∷ [] else []) else []

-- a store that is not seen lies in a frame
framed : (at value : ℕ) (there one four own next : Bool) → store_seen at value there one four ≡ []
    → ((there && (one || four)) || own || next) ≡ true → (own || next) ≡ true
framed at value true true four own next e h = absurd cc
framed at value true false true own next e h = absurd cc
framed at value true false false own next e h = h
framed at value false one four own next e h = h

-- a store that is seen is the one that core code does
done : (P : LongEvent → Type 0) (at count value : ℕ) (event : LongEvent) (there one four : Bool) → (count == 1) ≡ one → (count == 4) ≡ four
    → store_seen at value there one four ≡ event ∷ [] → P event → (width : Width) × (count ≡ width_bytes width) × P (Stored at width value)
done P at count value event true true four e g h may = let same : event ≡ Stored at Byte value = cc in (Byte, eqb-true count 1 e, subst P same may)
done P at count value event true false true e g h may = let same : event ≡ Stored at Word value = cc in (Word, eqb-true count 4 g, subst P same may)
done P at count value event true false false e g h may = absurd cc
done P at count value event false one four e g h may = absurd cc

both_empty : {E : Type 0} (xs ys : List E) → xs ++ ys ≡ [] → (xs ≡ []) × (ys ≡ [])
both_empty [] ys h = (refl, h)
both_empty (x ∷ xs) ys h = absurd cc

at_most_seen : (t : ℕ → List MachineEvent) → Grows t → Grows (λ i. flat_map seen_events (t i))
at_most_seen t grows i = elim (grows i) [
  | inl e ↦ inl (ap (flat_map seen_events) e)
  | inr p ↦ by p.0 (seen_more seen_events (t i) (t (i + 1)) p.0 p.1)
]
  where
    Adds : List LongEvent → Type 0
    Adds es = (flat_map seen_events (t (i + 1)) ≡ flat_map seen_events (t i)) ⊎ ((e : LongEvent) × (flat_map seen_events (t (i + 1)) ≡ flat_map seen_events (t i) ++ e ∷ []))

    none : flat_map seen_events (t (i + 1)) ≡ flat_map seen_events (t i) ++ [] → Adds []
    none h = inl (h ∙ append-nil (flat_map seen_events (t i)))

    store : (at value : ℕ) (there one four : Bool) → flat_map seen_events (t (i + 1)) ≡ flat_map seen_events (t i) ++ store_seen at value there one four → Adds []
    store at value true true four h = inr (Stored at Byte value, h)
    store at value true false true h = inr (Stored at Word value, h)
    store at value true false false h = none h
    store at value false one four h = none h

    by : (x : MachineEvent) → flat_map seen_events (t (i + 1)) ≡ flat_map seen_events (t i) ++ seen_events x → Adds []
    by (Outside event) h = inr (Plain event, h)
    by (Wrote at count value) h = store at value (is_data at) (count == 1) (count == 4) h

-- a list of step numbers that never falls
rises : (at : ℕ → ℕ) (last : ℕ) → ((i : ℕ) → i < last → at i ≤ at (i + 1)) → (n k : ℕ) → n + k ≤ last → at n ≤ at (n + k)
rises at last never n zero h =
    let e : n + 0 ≡ n = omega arith in
    let same : at (n + 0) ≡ at n = ap at e in
    omega (arith, same)
rises at last never n (suc k) h =
    let e : n + suc k ≡ n + k + 1 = omega arith in
    let same : at (n + suc k) ≡ at (n + k + 1) = ap at e in
    let before = rises at last never n k (omega arith) in
    let step = never (n + k) (omega arith) in
    omega (arith, same, before, step)

ordered : (at : ℕ → ℕ) (last : ℕ) → ((i : ℕ) → i < last → at i ≤ at (i + 1)) → (n m : ℕ) → n ≤ m → m ≤ last → at n ≤ at m
ordered at last never n m h l = elim (below_or_from m n) [
  | inl less ↦ absurd (omega arith)
  | inr p ↦
      let same : at m ≡ at (n + p.0) = ap at p.1 in
      let up = rises at last never n p.0 (omega (arith, p.1)) in
      omega (arith, same, up)
]

-- ---- the list

module _ (p : source.Program) (k : core.Program) (q : Placed) (parts : M.Parts) (input : List ℕ)
    (listed_core : (n : ℕ) → Listing (source_system p) (C.core_system k.functions) (λ (e : Event). e ∷ []) plain_events (MayDo p) AreLevel (S.first_state p input) (C.first_state k input) n)
    (reach : (j : ℕ) → (n : ℕ) × IsPrefix (F.placed_detail q input j).trace (C.core_detail k input n).trace)
    (listed : (n : ℕ) → Listing (F.placed_system q.funcs) (detailed_system parts) data_events seen_events (λ s e. IsTrue (may_do s e)) (λ s t. Unit {0})
    (F.first_state q input) (M.first_state parts input) n) where
  abbrev c0 : C.State
  c0 = C.first_state k input

  abbrev q0 : F.State
  q0 = F.first_state q input

  abbrev m0 : M.State
  m0 = M.first_state parts input

  abbrev s_at : ℕ → T.State
  s_at n = state_at (source_system p) (S.first_state p input) n

  abbrev upper : ℕ → List LongEvent
  upper n = (meaning (C.core_system k.functions) c0 n).trace

  abbrev middle : ℕ → List LongEvent
  middle j = (meaning (F.placed_system q.funcs) q0 j).trace

  abbrev machine_trace : ℕ → List MachineEvent
  machine_trace i = (meaning (detailed_system parts) m0 i).trace

  abbrev lowest : ℕ → List LongEvent
  lowest i = flat_map seen_events (machine_trace i)

  upper_grows : Grows upper
  upper_grows = run_grows (C.core_system k.functions) (λ s. let fine = core_fine k.functions s in fine.0) c0

  middle_grows : Grows middle
  middle_grows = run_grows (F.placed_system q.funcs) (λ s. let fine = placed_fine q.funcs s in fine.0) q0

  machine_grows : Grows machine_trace
  machine_grows = run_grows (detailed_system parts) (λ s. machine_short s parts) m0

  lowest_grows : Grows lowest
  lowest_grows = at_most_seen machine_trace machine_grows

  begins : upper 0 ≡ []
  unfolding shown
  begins = refl

  abbrev Joint : ℕ → ℕ → ℕ → Type 0
  Joint i j n = Joined upper middle lowest upper_grows middle_grows lowest_grows begins reach i j n

  -- as many calls are active if as many were entered and returned
  level : (n j : ℕ) → SameCalls (upper n) (middle j) → C.active (state_at (C.core_system k.functions) c0 n) ≡ F.active (state_at (F.placed_system q.funcs) q0 j)
  level n j same =
      same_active (C.active (state_at (C.core_system k.functions) c0 n)) (F.active (state_at (F.placed_system q.funcs) q0 j)) 1 (upper n) (middle j)
      (active_counted (C.core_system k.functions) C.active (λ s. let fine = core_fine k.functions s in fine.1) c0 n)
      (active_counted (F.placed_system q.funcs) F.active (λ s. let fine = placed_fine q.funcs s in fine.1) q0 j) same

  quiet_may : (s : T.State) (t : F.State) → F.active t ≡ T.active s → (new : List MachineEvent) → flat_map seen_events new ≡ [] → All (λ e. IsTrue (may_do t e)) new → All (MayWrite p s) new
  quiet_may s t same [] h all = All-nil (MayWrite p s)
  quiet_may s t same (x ∷ new) h all =
      let e = both_empty (seen_events x) (flat_map seen_events new) h in
      All-cons (MayWrite p s) x new (one x e.0 (All-head (λ e. IsTrue (may_do t e)) x new all)) (quiet_may s t same new e.1 (All-tail (λ e. IsTrue (may_do t e)) x new all))
    where
      one : (x : MachineEvent) → seen_events x ≡ [] → IsTrue (may_do t x) → MayWrite p s x
      one (Outside event) e h = tt
      one (Wrote at count value) e h =
          inr (subst (λ d. IsInFrame d at count) same
          (framed at value (is_data at) (count == 1) (count == 4) (is_in_frame (F.active t) at count) (nat_lt (F.active t) 1024 && is_in_frame (F.active t + 1) at count) e h))

  seen_may : (s : T.State) (x : MachineEvent) (event : LongEvent) → seen_events x ≡ event ∷ [] → MayDo p s event → MayWrite p s x
  seen_may s (Outside e) event h may = tt
  seen_may s (Wrote at count value) event h may = inl (done (MayDo p s) at count value event (is_data at) (count == 1) (count == 4) refl refl h may)

  showing_may : (s : T.State) (i : ℕ) (new : List MachineEvent) (event : LongEvent) → machine_trace (i + 1) ≡ machine_trace i ++ new → flat_map seen_events new ≡ event ∷ [] → MayDo p s event
      → All (MayWrite p s) new
  showing_may s i new event grown h may = elim (machine_grows i) [
    | inl e ↦
        let none : new ≡ [] = append_cancel_left (machine_trace i) new [] (sym grown ∙ e ∙ sym (append-nil (machine_trace i))) in
        subst (All (MayWrite p s)) (sym none) (All-nil (MayWrite p s))
    | inr x ↦
        let one : new ≡ x.0 ∷ [] = append_cancel_left (machine_trace i) new (x.0 ∷ []) (sym grown ∙ x.1) in
        let seen : seen_events x.0 ≡ event ∷ [] = sym (append-nil (seen_events x.0)) ∙ sym (ap (flat_map seen_events) one) ∙ h in
        subst (All (MayWrite p s)) (sym one) (All-cons (MayWrite p s) x.0 [] (seen_may s x.0 event seen may) (All-nil (MayWrite p s)))
  ]

  -- what is seen of core code is what is seen of the machine
  same_seen : (i n : ℕ) → data_in (upper n) ≡ lowest i → flat_map plain_events (upper n) ≡ flat_map outside_events (machine_trace i)
  same_seen i n e = sym (plain_data (upper n)) ∙ ap (flat_map plain_events) e ∙ outside_seen (machine_trace i)

  module _ (last : ℕ) where
    abbrev low : Listing (F.placed_system q.funcs) (detailed_system parts) data_events seen_events (λ s e. IsTrue (may_do s e)) (λ s t. Unit {0}) q0 m0 (last + 1)
    low = listed (last + 1)

    chosen : (i : ℕ) → (n : ℕ) × (i ≤ last → Joint i (low.at i) n)
    chosen i = elim (below_or_from i (last + 1)) [
      | inl less ↦
          let here = low.stands i (omega arith) in
          let next = low.stands (i + 1) (omega arith) in
          let j = joins upper middle lowest upper_grows middle_grows lowest_grows begins reach i (low.at i) (low.at (i + 1)) here.reached here.not_passed next.not_passed in
          (j.0, λ h. j.1)
      | inr r ↦ (0, λ h. absurd (omega (arith, r.1)))
    ]

    abbrev index : ℕ → ℕ
    index i = let c = chosen i in c.0

    joint : (i : ℕ) → i ≤ last → Joint i (low.at i) (index i)
    joint i h = let c = chosen i in c.1 h

    index_rises : (i : ℕ) → i < last → index i ≤ index (i + 1)
    index_rises i h =
        joined_rises upper middle lowest upper_grows middle_grows lowest_grows begins reach i (low.at i) (low.at (i + 1)) (index i) (index (i + 1))
        (low.never_falls i (omega arith)) (joint i (omega arith)) (joint (i + 1) (omega arith))

    abbrev high : Listing (source_system p) (C.core_system k.functions) (λ (e : Event). e ∷ []) plain_events (MayDo p) AreLevel (S.first_state p input) c0 (index last + 1)
    high = listed_core (index last + 1)

    index_below : (i : ℕ) → i ≤ last → index i ≤ index last
    index_below i h = ordered index last index_rises i last h (omega arith)

    may : (i : ℕ) → i < last → (new : List MachineEvent) → machine_trace (i + 1) ≡ machine_trace i ++ new → Joint i (low.at i) (index i) → All (MayWrite p (s_at (high.at (index i)))) new
    may i h new grown j = by j.next
      where
        n : ℕ
        n = index i

        below : n ≤ index last
        below = index_below i (omega arith)

        seen : lowest (i + 1) ≡ lowest i ++ flat_map seen_events new
        seen = ap (flat_map seen_events) grown ∙ flat_map-append seen_events (machine_trace i) new

        Next : Type 0
        Next = Quietly upper middle lowest upper_grows middle_grows lowest_grows begins reach i (low.at i) n ⊎ Showing upper middle lowest upper_grows middle_grows lowest_grows begins reach i n

        by : Next → All (MayWrite p (s_at (high.at n))) new
        by (inl r) =
            let none : flat_map seen_events new ≡ [] = append_cancel_left (lowest i) (flat_map seen_events new) [] (sym seen ∙ r.still ∙ sym (append-nil (lowest i))) in
            let calls : SameCalls (upper n) (middle (low.at i)) = subst (λ l. SameCalls l (middle (low.at i))) (sym r.upper_same) r.settled.calls in
            let at = high.stands n (omega (arith, below)) in
            quiet_may (s_at (high.at n)) (state_at (F.placed_system q.funcs) q0 (low.at i)) (sym (at.beside ∙ level n (low.at i) calls)) new none (low.allowed i (omega arith) new grown)
        by (inr r) =
            let one : flat_map seen_events new ≡ r.event ∷ [] = append_cancel_left (lowest i) (flat_map seen_events new) (r.event ∷ []) (sym seen ∙ r.shows) in
            showing_may (s_at (high.at n)) i new r.event grown one
            (All-head (MayDo p (s_at (high.at n))) r.event [] (high.allowed n (omega (arith, below)) (r.event ∷ []) r.does))

    pub machine_listed : Listing (source_system p) (detailed_system parts) (λ (e : Event). e ∷ []) outside_events (MayWrite p) (λ s t. Unit {0}) (S.first_state p input) m0 last
    machine_listed = record {
      at = λ i. high.at (index i);
      never_falls = λ i h.
          let below = index_below (i + 1) (omega arith) in
          ordered high.at (index last + 1) high.never_falls (index i) (index (i + 1)) (index_rises i h) (omega (arith, below));
      stands = λ i h.
          let below = index_below i h in
          let at = high.stands (index i) (omega (arith, below)) in
          let j = joint i h in
          let same = same_seen i (index i) j.same in
          record {
            reached = subst (IsPrefix (flat_map (λ (e : Event). e ∷ []) (meaning (source_system p) (S.first_state p input) (high.at (index i))).trace)) same at.reached;
            not_passed = subst (λ l. IsPrefix l (flat_map (λ (e : Event). e ∷ []) (meaning (source_system p) (S.first_state p input) (high.at (index i) + 1)).trace)) same at.not_passed;
            beside = tt;
          };
      allowed = λ i h new grown. may i h new grown (joint i (omega arith));
    }
