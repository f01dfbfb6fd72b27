-- A lower system follows an upper one if each step of the upper is matched by some steps of the lower.
use Rattle.std.proofs.Common.{◌≡◌, ◌≢◌, ◌⊎◌, inl, inr, ℕ, zero, suc, ◌+◌, ◌-◌, ◌*◌, ◌≤◌, ◌<◌, List, [], ◌++◌, append_assoc, append-nil, refl, sym, ◌∙◌, ap, subst, arith}
use Rattle.std.proofs.Math.Nat.{mul-le-mul_left}
use Rattle.ckc_base.specs.Traces.{Standing, Going, Ended, Stopped, Stuck, Fault, Showing}
use Rattle.ckc_base.specs.Follows.{IsSafe, IsOver, IsPrefix, IsBorneOut, Follows}
use Rattle.ckc_base.specs.Steps.{Move, Goes, Halts, System, after, shown, meaning}
use Rattle.ckc_base.specs.Matching.{Stretch, Closes, MatchedBy}
use Rattle.ckc_base.proofs.Following.{prefix_trans}

-- nothing is shown while the state waits
pub shown-waiting : {E S : Type 0} (m : System E S) (n wait : ℕ) (trace : List E) (s : S) → n ≤ wait → shown m n wait trace s ≡ record { trace = trace; standing = Going }
unfolding shown
shown-waiting m zero wait trace s h = refl
shown-waiting m (suc n) zero trace s h = absurd (omega arith)
shown-waiting m (suc n) (suc wait) trace s h = shown-waiting m n wait trace s (omega arith)

-- after the wait comes the move
pub shown-moving : {E S : Type 0} (m : System E S) (n wait later : ℕ) (trace : List E) (s : S) → n ≡ wait + suc later → shown m n wait trace s ≡ after (λ events next. shown m later (m.weight next) events next) trace (m.step s)
unfolding shown
shown-moving m zero wait later trace s h = absurd (omega arith)
shown-moving m (suc n) zero later trace s h =
    let e : n ≡ later = omega arith in
    ap (λ k. after (λ events next. shown m k (m.weight next) events next) trace (m.step s)) e
shown-moving m (suc n) (suc wait) later trace s h = shown-moving m n wait later trace s (omega arith)

pub one_step : {E S : Type 0} (m : System E S) (events : List E) (s u : S) → m.step s ≡ Goes events u → Stretch m (m.weight s + 1) events s u
one_step m events s u e = record {
  leads = λ n trace.
      shown-moving m _ (m.weight s) n trace s (omega arith)
      ∙ ap (after (λ events next. shown m n (m.weight next) events next) trace) e;
}

pub one_halt : {E S : Type 0} (m : System E S) (events : List E) (s : S) (standing : Standing) → m.step s ≡ Halts events standing → Closes m (m.weight s + 1) events s standing
one_halt m events s standing e = record {
  shows = λ n trace.
      shown-moving m _ (m.weight s) n trace s (omega arith)
      ∙ ap (after (λ events next. shown m n (m.weight next) events next) trace) e;
}

pub no_step : {E S : Type 0} (m : System E S) (s : S) → Stretch m 0 [] s s
no_step m s = record {
  leads = λ n trace.
      let e : 0 + n ≡ n = omega arith in
      ap (λ k. shown m k (m.weight s) trace s) e ∙ ap (λ t. shown m n (m.weight s) t s) (sym (append-nil trace));
}

-- the counts of two stretches add up
regroup : {E S : Type 0} (m : System E S) (c d n wait : ℕ) (trace : List E) (s : S) → shown m (c + d + n) wait trace s ≡ shown m (c + (d + n)) wait trace s
regroup m c d n wait trace s =
    let e : c + d + n ≡ c + (d + n) = omega arith in
    ap (λ k. shown m k wait trace s) e

pub then_stretch : {E S : Type 0} (m : System E S) (c d : ℕ) (es fs : List E) (s u v : S) → Stretch m c es s u → Stretch m d fs u v → Stretch m (c + d) (es ++ fs) s v
then_stretch m c d es fs s u v p q = record {
  leads = λ n trace.
      regroup m c d n (m.weight s) trace s ∙ p.leads (d + n) trace ∙ q.leads n (trace ++ es)
      ∙ ap (λ t. shown m n (m.weight v) t v) (append_assoc trace es fs);
}

pub then_closes : {E S : Type 0} (m : System E S) (c d : ℕ) (es fs : List E) (s u : S) (standing : Standing) → Stretch m c es s u → Closes m d fs u standing → Closes m (c + d) (es ++ fs) s standing
then_closes m c d es fs s u standing p q = record {
  shows = λ n trace.
      regroup m c d n (m.weight s) trace s ∙ p.leads (d + n) trace ∙ q.shows n (trace ++ es)
      ∙ ap (λ t. record { trace = t; standing = standing }) (append_assoc trace es fs);
}

-- What comes later begins with what came before, and what has halted stays.
pub record Later {E : Type 0} (a b : Showing E) : Type 0 where
  pub begins : IsPrefix a.trace b.trace
  pub stays : a.standing ≢ Going → b ≡ a

later_same : {E : Type 0} (a : Showing E) → Later a a
later_same a = record { begins = ([], sym (append-nil a.trace)); stays = λ h. refl }

later_from_going : {E : Type 0} (trace : List E) (b : Showing E) → IsPrefix trace b.trace → Later (record { trace = trace; standing = Going }) b
later_from_going trace b p = record { begins = p; stays = λ h. absurd (h refl) }

after_begins : {E S : Type 0} (go : List E → S → Showing E) (trace : List E) (move : Move E S) → ((t : List E) (u : S) → IsPrefix t (go t u).trace) → IsPrefix trace (after go trace move).trace
after_begins go trace (Goes events next) h = prefix_trans trace (trace ++ events) _ (events, refl) (h (trace ++ events) next)
after_begins go trace (Halts events standing) h = (events, refl)

after_later : {E S : Type 0} (go on : List E → S → Showing E) (trace : List E) (move : Move E S) → ((t : List E) (u : S) → Later (go t u) (on t u)) → Later (after go trace move) (after on trace move)
after_later go on trace (Goes events next) h = h (trace ++ events) next
after_later go on trace (Halts events standing) h = later_same _

shown-begins : {E S : Type 0} (m : System E S) (n wait : ℕ) (trace : List E) (s : S) → IsPrefix trace (shown m n wait trace s).trace
unfolding shown
shown-begins m zero wait trace s = ([], sym (append-nil trace))
shown-begins m (suc n) zero trace s =
    after_begins (λ t u. shown m n (m.weight u) t u) trace (m.step s) (λ t u. shown-begins m n (m.weight u) t u)
shown-begins m (suc n) (suc wait) trace s = shown-begins m n wait trace s

pub shown-later : {E S : Type 0} (m : System E S) (n k wait : ℕ) (trace : List E) (s : S) → n ≤ k → Later (shown m n wait trace s) (shown m k wait trace s)
unfolding shown
shown-later m zero k wait trace s h = later_from_going trace _ (shown-begins m k wait trace s)
shown-later m (suc n) zero wait trace s h = absurd (omega arith)
shown-later m (suc n) (suc k) zero trace s h =
    after_later (λ t u. shown m n (m.weight u) t u) (λ t u. shown m k (m.weight u) t u) trace (m.step s) (λ t u. shown-later m n k (m.weight u) t u (omega arith))
shown-later m (suc n) (suc k) (suc wait) trace s h = shown-later m n k wait trace s (omega arith)

over_is_safe : (s : Standing) → IsOver s → IsSafe s
over_is_safe Going o = tt
over_is_safe (Ended v) o = tt
over_is_safe (Stopped c p) o = tt
over_is_safe Stuck o = o
over_is_safe (Fault k p) o = o

over_is_not_going : (s : Standing) → IsOver s → s ≢ Going
over_is_not_going Going o e = o
over_is_not_going (Ended v) o e = cc
over_is_not_going (Stopped c p) o e = cc
over_is_not_going Stuck o e = o
over_is_not_going (Fault k p) o e = o

safe_unless_going : (s z : Standing) → (s ≢ Going → s ≡ z) → IsSafe z → IsSafe s
safe_unless_going Going z h safe = tt
safe_unless_going (Ended v) z h safe = tt
safe_unless_going (Stopped c p) z h safe = tt
safe_unless_going Stuck z h safe = subst IsSafe (sym (h (λ e. cc))) safe
safe_unless_going (Fault k p) z h safe = subst IsSafe (sym (h (λ e. cc))) safe

-- what is shown earlier is borne out by what is shown later
borne_out_earlier : {E : Type 0} (x y z : Showing E) → Later y x → IsSafe z.standing → x ≡ z → IsBorneOut z y
borne_out_earlier {E} x y z later safe e =
    let of : Showing E → Standing = λ s. s.standing in
    record {
      safe = safe_unless_going y.standing z.standing (λ h. ap of (sym (later.stays h) ∙ e)) safe;
      begins = (later.begins.0, sym (ap (λ (s : Showing E). s.trace) e) ∙ later.begins.1);
      over = λ o. sym e ∙ later.stays (over_is_not_going y.standing o);
    }

-- One move of the upper system is matched from the state t of the lower one, in at most most steps: by a stretch
-- with the same events to a related state, of at least one step unless a measure falls; or by a halt of the same
-- standing. Nothing is asked if the upper system is stuck.
abbrev pub Matched : {E S T : Type 0} → System E T → (S → T → Type 0) → (S → ℕ) → S → T → ℕ → Move E S → Type 0
Matched {E} {S} {T} m R measure s t most (Goes events next) =
    (count : ℕ) × (u : T) × (count ≤ most) × ((1 ≤ count) ⊎ (measure next < measure s)) × Stretch m count events t u × R next u
Matched {E} {S} {T} m R measure s t most (Halts events standing) =
    (standing ≡ Stuck) ⊎ ((count : ℕ) × (count ≤ most) × IsOver standing × Closes m count events t standing)

split : (n w : ℕ) → (n ≤ w) ⊎ ((later : ℕ) × (n ≡ w + suc later))
split zero w = inl (omega arith)
split (suc n) zero = inr (n, omega arith)
split (suc n) (suc w) = elim (split n w) [ inl h ↦ inl (omega arith) | inr p ↦ inr (p.0, omega (arith, p.1)) ]

module _ {E S T : Type 0} (a : System E S) (b : System E T) (R : S → T → Type 0) (measure : S → ℕ) (c : ℕ)
    (matches : (s : S) (t : T) → R s t → Matched b R measure s t (c * (a.weight s + 1)) (a.step s)) where
  -- what a shows from s, and b from t
  abbrev upper : ℕ → List E → S → Showing E
  upper n trace s = shown a n (a.weight s) trace s

  abbrev lower : ℕ → List E → T → Showing E
  lower k trace t = shown b k (b.weight t) trace t

  abbrev Comes : ℕ → List E → T → Showing E → Type 0
  Comes most trace t showing = (k : ℕ) × (k ≤ most) × (lower k trace t ≡ showing)

  bound_more : (w n later count k : ℕ) → n ≡ w + suc later → count ≤ c * (w + 1) → k ≤ c * (later + 1) → count + k ≤ c * (n + 1)
  bound_more w n later count k e h i =
      let join : (w + 1) + (later + 1) ≡ n + 1 = omega arith in
      let spread : c * ((w + 1) + (later + 1)) ≡ c * (w + 1) + c * (later + 1) = omega arith in
      let moved : c * (n + 1) ≡ c * (w + 1) + c * (later + 1) = sym (ap (λ x. c * x) join) ∙ spread in
      omega arith

  bound_halt : (w n later count : ℕ) → n ≡ w + suc later → count ≤ c * (w + 1) → count + 0 ≤ c * (n + 1)
  bound_halt w n later count e h =
      let less : w + 1 ≤ n + 1 = omega arith in
      omega (arith, mul-le-mul_left c less)

  forward_move : (w n later : ℕ) (trace : List E) (s : S) (t : T) (move : Move E S) → n ≡ w + suc later
      → ((trace : List E) (s : S) (t : T) → R s t → (upper later trace s).standing ≢ Stuck → Comes (c * (later + 1)) trace t (upper later trace s))
      → Matched b R measure s t (c * (w + 1)) move → (after (upper later) trace move).standing ≢ Stuck → Comes (c * (n + 1)) trace t (after (upper later) trace move)
  forward_move w n later trace s t (Goes events next) e again m h =
      let rest = again (trace ++ events) next m.1 m.5 h in
      (m.0 + rest.0, bound_more w n later m.0 rest.0 e m.2 rest.1, m.4.leads rest.0 trace ∙ rest.2)
  forward_move w n later trace s t (Halts events standing) e again (inl stuck) h = absurd (h stuck)
  forward_move w n later trace s t (Halts events standing) e again (inr m) h =
      (m.0 + 0, bound_halt w n later m.0 e m.1, m.3.shows 0 trace)

  -- if the upper system still waits, both show nothing new
  forward_waiting : (n : ℕ) (trace : List E) (s : S) (t : T) → n ≤ a.weight s → Comes (c * (n + 1)) trace t (upper n trace s)
  unfolding shown
  forward_waiting n trace s t h = (0, omega arith, sym (shown-waiting a n (a.weight s) trace s h))

  moved : (n later : ℕ) (trace : List E) (s : S) → n ≡ a.weight s + suc later → upper n trace s ≡ after (upper later) trace (a.step s)
  moved n later trace s e = shown-moving a n (a.weight s) later trace s e

  -- the claim for numbers of steps up to a bound
  abbrev Forward : ℕ → Type 0
  Forward fuel = (n : ℕ) (trace : List E) (s : S) (t : T) → n ≤ fuel → R s t → (upper n trace s).standing ≢ Stuck → Comes (c * (n + 1)) trace t (upper n trace s)

  forward_next : (fuel n : ℕ) (trace : List E) (s : S) (t : T) → n ≤ suc fuel → R s t → (upper n trace s).standing ≢ Stuck → Forward fuel
      → (n ≤ a.weight s) ⊎ ((later : ℕ) × (n ≡ a.weight s + suc later)) → Comes (c * (n + 1)) trace t (upper n trace s)
  forward_next fuel n trace s t l r h again (inl waits) = forward_waiting n trace s t waits
  forward_next fuel n trace s t l r h again (inr p) =
      let e = moved n p.0 trace s p.1 in
      let m = forward_move (a.weight s) n p.0 trace s t (a.step s) p.1
      (λ trace s t r h. again p.0 trace s t (omega (arith, p.1)) r h) (matches s t r)
      (λ stuck. h (ap (λ (x : Showing E). x.standing) e ∙ stuck)) in
      (m.0, m.1, m.2 ∙ sym e)

  forward_by : (fuel : ℕ) → Forward fuel
  forward_by zero n trace s t l r h = forward_waiting n trace s t (omega arith)
  forward_by (suc fuel) n trace s t l r h = forward_next fuel n trace s t l r h (forward_by fuel) (split n (a.weight s))

  -- Some step of the upper system is stuck, or shows what the lower one shows at some step from k on.
  abbrev Chased : ℕ → List E → S → T → Type 0
  Chased k trace s t = (n : ℕ) × (((upper n trace s).standing ≡ Stuck)
      ⊎ ((j : ℕ) × (k ≤ j) × IsSafe (upper n trace s).standing × (lower j trace t ≡ upper n trace s)))

  -- the same of a move of the upper system, some steps later
  abbrev ChasedBy : ℕ → List E → Move E S → T → Type 0
  ChasedBy k trace move t = (later : ℕ) × (((after (upper later) trace move).standing ≡ Stuck)
      ⊎ ((j : ℕ) × (k ≤ j) × IsSafe (after (upper later) trace move).standing × (lower j trace t ≡ after (upper later) trace move)))

  chased_now : (trace : List E) (s : S) (t : T) → Chased 0 trace s t
  unfolding shown
  chased_now trace s t = (0, inr (0, omega arith, tt, refl))

  chased_from_move : (k : ℕ) (trace : List E) (s : S) (t : T) → ChasedBy k trace (a.step s) t → Chased k trace s t
  chased_from_move k trace s t p =
      let n = a.weight s + suc p.0 in
      let e = moved n p.0 trace s refl in
      (n, subst (λ (x : Showing E). (x.standing ≡ Stuck) ⊎ ((j : ℕ) × (k ≤ j) × IsSafe x.standing × (lower j trace t ≡ x))) (sym e) p.1)

  abbrev Claim : ℕ → Type 0
  Claim k = (trace : List E) (s : S) (t : T) → R s t → Chased k trace s t

  -- what is chased after a stretch of the lower system is chased from its start
  chased_over : (k rest count : ℕ) (events trace : List E) (next : S) (t u : T) → k ≤ count + rest → Stretch b count events t u → Chased rest (trace ++ events) next u → ChasedBy k trace (Goes events next) t
  chased_over k rest count events trace next t u l p q = (
    q.0,
    elim q.1 [
      | inl stuck ↦ inl stuck
      | inr m ↦ inr (count + m.0, omega (arith, m.1), m.2, p.leads m.0 trace ∙ m.3)
    ],
  )

  chased_halt : (k count : ℕ) (events trace : List E) (t : T) (standing : Standing) → IsOver standing → Closes b count events t standing → ChasedBy k trace (Halts events standing) t
  chased_halt k count events trace t standing o p =
      (0, inr (count + k, omega arith, over_is_safe standing o, p.shows k trace))

  -- a move that is matched by at least one step leaves fewer to chase, and another leaves a smaller measure
  chase_move : (k fuel left most : ℕ) (trace : List E) (s : S) (t : T) (move : Move E S) → k ≤ suc fuel → measure s < suc left
      → ((k : ℕ) → k ≤ fuel → Claim k)
      → ((trace : List E) (s : S) (t : T) → R s t → measure s < left → Chased k trace s t)
      → Matched b R measure s t most move → ChasedBy k trace move t
  chase_move k fuel left most trace s t (Goes events next) l less below smaller m =
      elim m.3 [
        | inl one ↦ chased_over k (k - m.0) m.0 events trace next t m.1 (omega arith) m.4
            (below (k - m.0) (omega (arith, one)) (trace ++ events) next m.1 m.5)
        | inr falls ↦ chased_over k k m.0 events trace next t m.1 (omega arith) m.4
            (smaller (trace ++ events) next m.1 m.5 (omega (arith, falls)))
      ]
  chase_move k fuel left most trace s t (Halts events standing) l less below smaller (inl stuck) = (0, inl stuck)
  chase_move k fuel left most trace s t (Halts events standing) l less below smaller (inr m) = chased_halt k m.0 events trace t standing m.2 m.3

  chase_by_measure : (k fuel left : ℕ) → k ≤ suc fuel → ((k : ℕ) → k ≤ fuel → Claim k) → (trace : List E) (s : S) (t : T) → R s t → measure s < left → Chased k trace s t
  chase_by_measure k fuel zero l below trace s t r less = absurd (omega arith)
  chase_by_measure k fuel (suc left) l below trace s t r less =
      chased_from_move k trace s t
      (chase_move k fuel left _ trace s t (a.step s) l less below (chase_by_measure k fuel left l below) (matches s t r))

  chase : (fuel k : ℕ) → k ≤ fuel → Claim k
  chase zero k l trace s t r =
      let e : k ≡ 0 = omega arith in
      subst (λ k. Chased k trace s t) (sym e) (chased_now trace s t)
  chase (suc fuel) k l trace s t r =
      chase_by_measure k fuel (measure s + 1) l (chase fuel) trace s t r (omega arith)

  -- from related states the lower system follows the upper one
  pub follows_by_steps : (s : S) (t : T) → R s t → Follows (meaning a s) (meaning b t) c
  follows_by_steps s t r = record {
    forward = λ n h. forward_by n n [] s t (omega arith) r h;
    back = λ k.
        let p = chase k k (omega arith) [] s t r in (
          p.0,
          elim p.1 [
            | inl stuck ↦ inl stuck
            | inr m ↦ inr (borne_out_earlier (meaning b t m.0) (meaning b t k) (meaning a s p.0) (shown-later b k m.0 (b.weight t) [] t m.1) m.2 m.3)
          ],
        );
  }

-- the states that a list of pairs joins
abbrev Paired : {S T P : Type 0} → (P → S) → (P → T) → S → T → Type 0
Paired {S} {T} {P} upper lower s t = (p : P) × (upper p ≡ s) × (lower p ≡ t)

paired_move : {E S T P : Type 0} (b : System E T) (upper : P → S) (lower : P → T) (measure : S → ℕ) (s : S) (t : T) (most : ℕ) (move : Move E S)
    → MatchedBy b upper lower measure s t most move → Matched b (Paired upper lower) measure s t most move
paired_move b upper lower measure s t most (Goes events next) m =
    (m.0, lower m.1, m.2, m.3, m.4, (m.1, m.5, refl))
paired_move b upper lower measure s t most (Halts events standing) m = m

paired_matches : {E S T P : Type 0} (a : System E S) (b : System E T) (upper : P → S) (lower : P → T) (measure : S → ℕ) (c : ℕ)
    → ((p : P) → MatchedBy b upper lower measure (upper p) (lower p) (c * (a.weight (upper p) + 1)) (a.step (upper p)))
    → (s : S) (t : T) → Paired upper lower s t → Matched b (Paired upper lower) measure s t (c * (a.weight s + 1)) (a.step s)
paired_matches a b upper lower measure c h s t q =
    let m = paired_move b upper lower measure (upper q.0) (lower q.0) (c * (a.weight (upper q.0) + 1)) (a.step (upper q.0)) (h q.0) in
    subst (λ s. Matched b (Paired upper lower) measure s t (c * (a.weight s + 1)) (a.step s)) q.1
    (subst (λ t. Matched b (Paired upper lower) measure (upper q.0) t (c * (a.weight (upper q.0) + 1)) (a.step (upper q.0))) q.2 m)

-- the same lemma over pairs of states, in place of a relation
pub follows_by_pairs : {E S T P : Type 0} (a : System E S) (b : System E T) (upper : P → S) (lower : P → T) (measure : S → ℕ) (c : ℕ)
    → ((p : P) → MatchedBy b upper lower measure (upper p) (lower p) (c * (a.weight (upper p) + 1)) (a.step (upper p)))
    → (p : P) → Follows (meaning a (upper p)) (meaning b (lower p)) c
follows_by_pairs a b upper lower measure c h p =
    follows_by_steps a b (Paired upper lower) measure c (paired_matches a b upper lower measure c h) (upper p) (lower p) (p, refl, refl)
