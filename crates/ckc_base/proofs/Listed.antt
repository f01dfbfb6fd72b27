-- The steps of a run that is simulated can be listed beside those of the upper run.
use Rattle.std.proofs.Common.{◌≡◌, ◌≢◌, inl, inr, ℕ, zero, suc, ◌+◌, ◌≤◌, ◌<◌, List, [], ◌∷◌, ◌++◌, append_assoc, refl, sym, ◌∙◌, ap, subst, arith}
use Rattle.std.specs.Prelude.{All, flat_map}
use Rattle.std.proofs.lemmas.List.{append_cancel_left}
use Rattle.std.proofs.lemmas.List.Elements.{All-nil, All-cons, All-head, All-tail}
use Rattle.std.proofs.lemmas.Grind.{flat_map-append}
use Rattle.ckc_base.specs.Traces.{Standing, Stuck, Showing}
use Rattle.ckc_base.specs.Follows.{IsPrefix}
use Rattle.ckc_base.specs.Steps.{Move, Goes, Halts, System, after, shown, meaning}
use Rattle.ckc_base.specs.States.{moved_on, state_at, Travels}
use Rattle.ckc_base.specs.Simulation.{SimulatesHalt, SimulatedBy}
use Rattle.ckc_base.specs.Listing.{Listing}
use Rattle.ckc_base.proofs.Runs.{shown-waiting, shown-moving, shown-later}
use Rattle.ckc_base.proofs.Travelling.{state-waiting, state-moving, below_or_from}
use Rattle.ckc_base.proofs.Simulating.{Near, Whole, WholeBy, whole_from_near}

-- ---- lists

prefix_seen : {F G : Type 0} (g : F → List G) (xs ys : List F) → IsPrefix xs ys → IsPrefix (flat_map g xs) (flat_map g ys)
prefix_seen g xs ys p = (flat_map g p.0, ap (flat_map g) p.1 ∙ flat_map-append g xs p.0)

pub All-first : {X : Type 0} (P : X → Type 0) (xs ys : List X) → All P (xs ++ ys) → All P xs
All-first P [] ys h = All-nil P
All-first P (x ∷ xs) ys h = All-cons P x xs (All-head P x (xs ++ ys) h) (All-first P xs ys (All-tail P x (xs ++ ys) h))

pub All-second : {X : Type 0} (P : X → Type 0) (xs ys : List X) → All P (xs ++ ys) → All P ys
All-second P [] ys h = h
All-second P (x ∷ xs) ys h = All-second P xs ys (All-tail P x (xs ++ ys) h)

-- what stands between two fronts of a list that has the property in its second part
All-between : {X : Type 0} (P : X → Type 0) (before es old new up : List X) → All P es → IsPrefix before old → up ≡ old ++ new → IsPrefix up (before ++ es) → All P new
All-between P before es old new up h p e q =
    let whole : before ++ es ≡ before ++ (p.0 ++ (new ++ q.0)) =
    q.1 ∙ ap (λ x. x ++ q.0) (e ∙ ap (λ x. x ++ new) p.1)
    ∙ ap (λ x. x ++ q.0) (append_assoc before p.0 new)
    ∙ append_assoc before (p.0 ++ new) q.0
    ∙ ap (λ x. before ++ x) (append_assoc p.0 new q.0) in
    let inside : es ≡ p.0 ++ (new ++ q.0) = append_cancel_left before es (p.0 ++ (new ++ q.0)) whole in
    All-first P new q.0 (All-second P p.0 (new ++ q.0) (subst (All P) inside h))

-- ---- numbers

-- w for the first count indices, and then what later says, counted from 0
spliced : ℕ → ℕ → (ℕ → ℕ) → ℕ → ℕ
spliced zero w later i = later i
spliced (suc count) w later zero = w
spliced (suc count) w later (suc i) = spliced count w later i

spliced-below : (count w : ℕ) (later : ℕ → ℕ) (i : ℕ) → i < count → spliced count w later i ≡ w
unfolding spliced
spliced-below zero w later i h = absurd (omega arith)
spliced-below (suc count) w later zero h = refl
spliced-below (suc count) w later (suc i) h = spliced-below count w later i (omega arith)

spliced-from : (count w : ℕ) (later : ℕ → ℕ) (i j : ℕ) → i ≡ count + j → spliced count w later i ≡ later j
unfolding spliced
spliced-from zero w later i j e = let same : i ≡ j = omega arith in ap later same
spliced-from (suc count) w later zero j e = absurd (omega arith)
spliced-from (suc count) w later (suc i) j e = spliced-from count w later i j (omega arith)

module _ {E F G S T : Type 0} (a : System E S) (b : System F T) (f : E → List G) (g : F → List G) (May : S → F → Type 0) (Beside : S → T → Type 0) where
  -- what a shows from s, and b from t
  abbrev upper : ℕ → List E → S → Showing E
  upper n trace s = shown a n (a.weight s) trace s

  abbrev lower : ℕ → List F → T → Showing F
  lower k trace t = shown b k (b.weight t) trace t

  -- the same facts as in a listing, from traces that are there already
  record Stands (before : List E) (below : List F) (s : S) (t : T) (i n : ℕ) : Type 0 where
    reached : IsPrefix (flat_map f (upper n before s).trace) (flat_map g (lower i below t).trace)
    not_passed : IsPrefix (flat_map g (lower i below t).trace) (flat_map f (upper (n + 1) before s).trace)
    beside : Beside (state_at a s n) (state_at b t i)

  abbrev Allows : List F → S → T → ℕ → ℕ → Type 0
  Allows below s t i n = (new : List F) → (lower (i + 1) below t).trace ≡ (lower i below t).trace ++ new → All (May (state_at a s n)) new

  record Listed (before : List E) (below : List F) (s : S) (t : T) (k : ℕ) : Type 0 where
    at : ℕ → ℕ
    never_falls : (i : ℕ) → i < k → at i ≤ at (i + 1)
    stands : (i : ℕ) → i ≤ k → Stands before below s t i (at i)
    allowed : (i : ℕ) → i < k → Allows below s t i (at i)

  begins : (below : List F) (t : T) (i : ℕ) → IsPrefix below (lower i below t).trace
  unfolding shown
  begins below t i = (shown-later b 0 i (b.weight t) below t (omega arith)).begins

  earlier : (below : List F) (t : T) (i j : ℕ) → i ≤ j → IsPrefix (lower i below t).trace (lower j below t).trace
  earlier below t i j h = (shown-later b i j (b.weight t) below t h).begins

  -- while the upper system waits before its move, and what the move shows
  upper-waiting : (before : List E) (s : S) → (upper (a.weight s) before s).trace ≡ before
  upper-waiting before s = ap (λ (x : Showing E). x.trace) (shown-waiting a (a.weight s) (a.weight s) before s (omega arith))

  upper-moving : (before : List E) (s : S) (n : ℕ) (move : Move E S) → a.step s ≡ move → upper (a.weight s + 1 + n) before s ≡ after (upper n) before move
  upper-moving before s n move e =
      shown-moving a (a.weight s + 1 + n) (a.weight s) n before s (omega arith) ∙ ap (after (upper n) before) e

  at_wait : (s : S) → state_at a s (a.weight s) ≡ s
  at_wait s = state-waiting a (a.weight s) (a.weight s) s (omega arith)

  -- The lower step i stands at the step of the upper system before its move, whose events are those up to `ahead`.
  stands_within : (before ahead : List E) (below es : List F) (s : S) (t : T) (i : ℕ) → flat_map f before ≡ flat_map g below
      → (upper (a.weight s + 1) before s).trace ≡ ahead → flat_map g (below ++ es) ≡ flat_map f ahead
      → IsPrefix (lower i below t).trace (below ++ es) → Beside s (state_at b t i) → Stands before below s t i (a.weight s)
  stands_within before ahead below es s t i h up e p beside = record {
    reached =
        let start : flat_map f (upper (a.weight s) before s).trace ≡ flat_map g below = ap (flat_map f) (upper-waiting before s) ∙ h in
        subst (λ x. IsPrefix x (flat_map g (lower i below t).trace)) (sym start) (prefix_seen g below (lower i below t).trace (begins below t i));
    not_passed =
        let end : flat_map g (below ++ es) ≡ flat_map f (upper (a.weight s + 1) before s).trace = e ∙ sym (ap (flat_map f) up) in
        subst (IsPrefix (flat_map g (lower i below t).trace)) end (prefix_seen g (lower i below t).trace (below ++ es) p);
    beside = subst (λ u. Beside u (state_at b t i)) (sym (at_wait s)) beside;
  }

  allows_within : (below es : List F) (s : S) (t : T) (i : ℕ) → All (May s) es → IsPrefix (lower (i + 1) below t).trace (below ++ es) → Allows below s t i (a.weight s)
  allows_within below es s t i h p = λ new e.
      let P : S → Type 0 = λ u. All (May u) new in
      subst P (sym (at_wait s)) (All-between (May s) below es (lower i below t).trace new (lower (i + 1) below t).trace h (begins below t i) e p)

  -- the trace at the first step after the wait
  moved_trace : (before : List E) (s next : S) (events : List E) → a.step s ≡ Goes events next → (upper (a.weight s + 1) before s).trace ≡ before ++ events
  unfolding shown
  moved_trace before s next events e =
      let one : a.weight s + 1 ≡ a.weight s + 1 + 0 = omega arith in
      ap (λ n. (upper n before s).trace) one ∙ ap (λ (x : Showing E). x.trace) (upper-moving before s 0 (Goes events next) e)

  halted_trace : (before : List E) (s : S) (events : List E) (standing : Standing) → a.step s ≡ Halts events standing → (upper (a.weight s + 1) before s).trace ≡ before ++ events
  halted_trace before s events standing e =
      let one : a.weight s + 1 ≡ a.weight s + 1 + 0 = omega arith in
      ap (λ n. (upper n before s).trace) one ∙ ap (λ (x : Showing E). x.trace) (upper-moving before s 0 (Halts events standing) e)

  seen_both : (before events : List E) (below es : List F) → flat_map f before ≡ flat_map g below → flat_map g es ≡ flat_map f events → flat_map g (below ++ es) ≡ flat_map f (before ++ events)
  seen_both before events below es h e =
      flat_map-append g below es ∙ ap (λ x. x ++ flat_map g es) (sym h) ∙ ap (λ x. flat_map f before ++ x) e
      ∙ sym (flat_map-append f before events)

  -- a listing of a halt: every lower step stands before it
  listed_halt : (before : List E) (below : List F) (s : S) (t : T) (k most : ℕ) (events : List E) (standing : Standing) → a.step s ≡ Halts events standing
      → flat_map f before ≡ flat_map g below → SimulatesHalt b f g May Beside most s t events standing → Listed before below s t k
  listed_halt before below s t k most events standing e h m =
      let until : (i : ℕ) → IsPrefix (lower i below t).trace (below ++ m.lower) =
      λ i. subst (IsPrefix (lower i below t).trace) (ap (λ (x : Showing F). x.trace) (m.closes.shows i below)) (earlier below t i (m.count + i) (omega arith)) in
      record {
        at = λ i. a.weight s;
        never_falls = λ i less. omega arith;
        stands = λ i less.
            stands_within before (before ++ events) below m.lower s t i h (halted_trace before s events standing e)
            (seen_both before events below m.lower h m.seen) (until i) (m.beside i);
        allowed = λ i less. allows_within below m.lower s t i m.allowed (until (i + 1));
      }

  -- what holds of a later step of both holds, counted from before the move
  stands_later : (before : List E) (below : List F) (s next : S) (t u : T) (events : List E) (es : List F) (count i j n : ℕ) → a.step s ≡ Goes events next
      → Travels b count es t u → i ≡ count + j → Stands (before ++ events) (below ++ es) next u j n → Stands before below s t i (a.weight s + 1 + n)
  stands_later before below s next t u events es count i j n e goes at p =
      let up : upper (a.weight s + 1 + n) before s ≡ upper n (before ++ events) next = upper-moving before s n (Goes events next) e in
      let up_one : upper (a.weight s + 1 + n + 1) before s ≡ upper (n + 1) (before ++ events) next =
      let more : a.weight s + 1 + n + 1 ≡ a.weight s + 1 + (n + 1) = omega arith in
      ap (λ m. upper m before s) more ∙ upper-moving before s (n + 1) (Goes events next) e in
      let down : lower i below t ≡ lower j (below ++ es) u = ap (λ k. lower k below t) at ∙ goes.stretch.leads j below in
      let up_state : state_at a s (a.weight s + 1 + n) ≡ state_at a next n =
      state-moving a (a.weight s + 1 + n) (a.weight s) n s (omega arith) ∙ ap (moved_on (λ v. state_at a v n) s) e in
      let down_state : state_at b t i ≡ state_at b u j = ap (state_at b t) at ∙ goes.states j in
      record {
        reached = subst (λ (x : Showing E). IsPrefix (flat_map f x.trace) (flat_map g (lower i below t).trace)) (sym up)
            (subst (λ (y : Showing F). IsPrefix (flat_map f (upper n (before ++ events) next).trace) (flat_map g y.trace)) (sym down) p.reached);
        not_passed = subst (λ (x : Showing E). IsPrefix (flat_map g (lower i below t).trace) (flat_map f x.trace)) (sym up_one)
            (subst (λ (y : Showing F). IsPrefix (flat_map g y.trace) (flat_map f (upper (n + 1) (before ++ events) next).trace)) (sym down) p.not_passed);
        beside = subst (λ x. Beside x (state_at b t i)) (sym up_state) (subst (λ y. Beside (state_at a next n) y) (sym down_state) p.beside);
      }

  allows_later : (before : List E) (below : List F) (s next : S) (t u : T) (events : List E) (es : List F) (count i j n : ℕ) → a.step s ≡ Goes events next
      → Travels b count es t u → i ≡ count + j → Allows (below ++ es) next u j n → Allows below s t i (a.weight s + 1 + n)
  allows_later before below s next t u events es count i j n e goes at p = λ new grows.
      let down : lower i below t ≡ lower j (below ++ es) u = ap (λ k. lower k below t) at ∙ goes.stretch.leads j below in
      let at_next : i + 1 ≡ count + (j + 1) = omega arith in
      let down_one : lower (i + 1) below t ≡ lower (j + 1) (below ++ es) u = ap (λ k. lower k below t) at_next ∙ goes.stretch.leads (j + 1) below in
      let up_state : state_at a s (a.weight s + 1 + n) ≡ state_at a next n =
      state-moving a (a.weight s + 1 + n) (a.weight s) n s (omega arith) ∙ ap (moved_on (λ v. state_at a v n) s) e in
      let P : S → Type 0 = λ v. All (May v) new in
      subst P (sym up_state)
      (p new (sym (ap (λ (x : Showing F). x.trace) down_one) ∙ grows ∙ ap (λ (x : Showing F). x.trace ++ new) down))

  -- the lower steps of a stretch show no more than the whole stretch
  until_end : (below : List F) (t u : T) (count : ℕ) (es : List F) (i : ℕ) → Travels b count es t u → i ≤ count → IsPrefix (lower i below t).trace (below ++ es)
  unfolding shown
  until_end below t u count es i goes less =
      subst (IsPrefix (lower i below t).trace) (ap (λ (x : Showing F). x.trace) (goes.stretch.leads 0 below)) (earlier below t i (count + 0) (omega arith))

  abbrev Simulated : ℕ → (S → ℕ) → (S → T → Type 0) → ℕ → S → T → List E → S → Type 0
  Simulated near measure R most s t events next = Whole b f g May Beside R measure near most s t events next

  -- a listing within one stretch
  listed_short : (near most : ℕ) (measure : S → ℕ) (R : S → T → Type 0) (before : List E) (below : List F) (s next : S) (t : T) (events : List E) (k : ℕ) → a.step s ≡ Goes events next
      → flat_map f before ≡ flat_map g below → (w : Simulated near measure R most s t events next) → k < w.count → Listed before below s t k
  listed_short near most measure R before below s next t events k e h w short = record {
    at = λ i. a.weight s;
    never_falls = λ i less. omega arith;
    stands = λ i less.
        stands_within before (before ++ events) below w.lower s t i h (moved_trace before s next events e)
        (seen_both before events below w.lower h w.seen) (until_end below t w.to w.count w.lower i w.travels (omega arith))
        (w.keeps.beside i (omega arith));
    allowed = λ i less.
        allows_within below w.lower s t i w.keeps.allowed (until_end below t w.to w.count w.lower (i + 1) w.travels (omega arith));
  }

  -- a listing over a stretch and what comes after it
  listed_long : (near most : ℕ) (measure : S → ℕ) (R : S → T → Type 0) (before : List E) (below : List F) (s next : S) (t : T) (events : List E) (k r : ℕ) → a.step s ≡ Goes events next
      → flat_map f before ≡ flat_map g below → (w : Simulated near measure R most s t events next) → k ≡ w.count + r
      → Listed (before ++ events) (below ++ w.lower) next w.to r → Listed before below s t k
  listed_long near most measure R before below s next t events k r e h w split later =
      let wait = a.weight s in
      let shift : ℕ → ℕ = λ j. wait + 1 + later.at j in
      let list : ℕ → ℕ = spliced w.count wait shift in
      let first : (i : ℕ) → i < w.count → list i ≡ wait = spliced-below w.count wait shift in
      let second : (i j : ℕ) → i ≡ w.count + j → list i ≡ shift j = spliced-from w.count wait shift in
      record {
        at = list;
        never_falls = λ i less. elim (below_or_from i w.count) [
          | inl within ↦ elim (below_or_from (i + 1) w.count) [
            | inl both ↦ omega (arith, first i within, first (i + 1) both)
            | inr over ↦ omega (arith, first i within, second (i + 1) over.0 over.1)
          ]
          | inr over ↦
              let next_at : i + 1 ≡ w.count + (over.0 + 1) = omega (arith, over.1) in
              omega (arith, second i over.0 over.1, second (i + 1) (over.0 + 1) next_at, later.never_falls over.0 (omega (arith, over.1)))
        ];
        stands = λ i less. elim (below_or_from i w.count) [
          | inl within ↦
              subst (Stands before below s t i) (sym (first i within))
              (stands_within before (before ++ events) below w.lower s t i h (moved_trace before s next events e)
              (seen_both before events below w.lower h w.seen) (until_end below t w.to w.count w.lower i w.travels (omega arith))
              (w.keeps.beside i within))
          | inr over ↦
              subst (Stands before below s t i) (sym (second i over.0 over.1))
              (stands_later before below s next t w.to events w.lower w.count i over.0 (later.at over.0) e w.travels over.1
              (later.stands over.0 (omega (arith, over.1))))
        ];
        allowed = λ i less. elim (below_or_from i w.count) [
          | inl within ↦
              subst (Allows below s t i) (sym (first i within))
              (allows_within below w.lower s t i w.keeps.allowed (until_end below t w.to w.count w.lower (i + 1) w.travels (omega arith)))
          | inr over ↦
              subst (Allows below s t i) (sym (second i over.0 over.1))
              (allows_later before below s next t w.to events w.lower w.count i over.0 (later.at over.0) e w.travels over.1
              (later.allowed over.0 (omega (arith, over.1))))
        ];
      }

  abbrev NeverStuck : List E → S → Type 0
  NeverStuck before s = (n : ℕ) → (upper n before s).standing ≢ Stuck

  never_stuck_next : (before : List E) (s next : S) (events : List E) → a.step s ≡ Goes events next → NeverStuck before s → NeverStuck (before ++ events) next
  never_stuck_next before s next events e safe = λ n stuck.
      safe (a.weight s + 1 + n) (ap (λ (x : Showing E). x.standing) (upper-moving before s n (Goes events next) e) ∙ stuck)

  no_stuck_halt : (before : List E) (s : S) (events : List E) → a.step s ≡ Halts events Stuck → NeverStuck before s → ⊥
  no_stuck_halt before s events e safe =
      safe (a.weight s + 1 + 0) (ap (λ (x : Showing E). x.standing) (upper-moving before s 0 (Halts events Stuck) e))

  module _ (R : S → T → Type 0) (measure : S → ℕ) (near : ℕ) (most : S → ℕ)
      (simulates : (s : S) (t : T) → R s t → SimulatedBy b f g May Beside R measure near (most s) s t (a.step s)) where
    abbrev Claim : ℕ → Type 0
    Claim k = (before : List E) (below : List F) (s : S) (t : T) → Near b g May Beside R near s t → flat_map f before ≡ flat_map g below
        → NeverStuck before s → Listed before below s t k

    abbrev Smaller : ℕ → ℕ → Type 0
    Smaller fuel left = (k : ℕ) → k ≤ fuel → (before : List E) (below : List F) (s : S) (t : T) → Near b g May Beside R near s t
        → flat_map f before ≡ flat_map g below → NeverStuck before s → measure s < left → Listed before below s t k

    list_goes : (fuel left k : ℕ) (before : List E) (below : List F) (s next : S) (t : T) (events : List E) → a.step s ≡ Goes events next
        → flat_map f before ≡ flat_map g below → NeverStuck before s → k ≤ fuel → measure s < suc left
        → ((k : ℕ) → k < fuel → Claim k) → Smaller fuel left
        → Simulated near measure R (near + most s) s t events next → Listed before below s t k
    list_goes fuel left k before below s next t events e h safe l m claim smaller w =
        let seen : flat_map f (before ++ events) ≡ flat_map g (below ++ w.lower) = sym (seen_both before events below w.lower h w.seen) in
        let never = never_stuck_next before s next events e safe in
        elim (below_or_from k w.count) [
          | inl short ↦ listed_short near (near + most s) measure R before below s next t events k e h w short
          | inr r ↦
              listed_long near (near + most s) measure R before below s next t events k r.0 e h w r.1
              (elim w.goes_on [
                | inl one ↦ claim r.0 (omega (arith, r.1, one)) (before ++ events) (below ++ w.lower) next w.to w.nearby seen never
                | inr falls ↦ smaller r.0 (omega (arith, r.1)) (before ++ events) (below ++ w.lower) next w.to w.nearby seen never (omega (arith, falls))
              ])
        ]

    list_move : (fuel left k : ℕ) (before : List E) (below : List F) (s : S) (t : T) (move : Move E S) → a.step s ≡ move
        → flat_map f before ≡ flat_map g below → NeverStuck before s → k ≤ fuel → measure s < suc left
        → ((k : ℕ) → k < fuel → Claim k) → Smaller fuel left
        → WholeBy b f g May Beside R measure near (near + most s) s t move → Listed before below s t k
    list_move fuel left k before below s t (Goes events next) e h safe l m claim smaller w =
        list_goes fuel left k before below s next t events e h safe l m claim smaller w
    list_move fuel left k before below s t (Halts events standing) e h safe l m claim smaller (inl stuck) =
        absurd (no_stuck_halt before s events (e ∙ ap (Halts events) stuck) safe)
    list_move fuel left k before below s t (Halts events standing) e h safe l m claim smaller (inr w) =
        listed_halt before below s t k (near + most s) events standing e h w

    list_smaller : (fuel left : ℕ) → ((k : ℕ) → k < fuel → Claim k) → Smaller fuel left
    list_smaller fuel zero claim k l before below s t n h safe m = absurd (omega arith)
    list_smaller fuel (suc left) claim k l before below s t n h safe m =
        list_move fuel left k before below s t (a.step s) refl h safe l m claim (list_smaller fuel left claim)
        (whole_from_near b f g May Beside R measure near (most s) s t n.to (a.step s) n.nears (simulates s n.to n.related))

    list_below : (fuel k : ℕ) → k < fuel → Claim k
    list_below zero k l before below s t n h safe = absurd (omega arith)
    list_below (suc fuel) k l before below s t n h safe =
        list_smaller fuel (measure s + 1) (list_below fuel) k (omega arith) before below s t n h safe (omega arith)

    -- a run that is never stuck has a listing beside it, for each number of lower steps
    pub listing_by_simulation : (s : S) (t : T) → Near b g May Beside R near s t → ((n : ℕ) → (meaning a s n).standing ≢ Stuck) → (k : ℕ) → Listing a b f g May Beside s t k
    listing_by_simulation s t n safe k =
        let listed = list_below (k + 1) k (omega arith) [] [] s t n refl safe in
        record {
          at = listed.at;
          never_falls = listed.never_falls;
          stands = λ i less.
              let p = listed.stands i less in
              record { reached = p.reached; not_passed = p.not_passed; beside = p.beside };
          allowed = listed.allowed;
        }
