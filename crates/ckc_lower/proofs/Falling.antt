-- A lower system follows an upper one if each step of the upper is matched by some steps of the lower, or by none
-- while a measure of the pair of states falls.
use Rattle.std.proofs.Common.{◌≡◌, ◌⊎◌, ℕ, zero, suc, ◌+◌, ◌*◌, ◌≤◌, ◌<◌, List, [], ◌++◌, refl, subst}
use Rattle.std.proofs.Math.Path.{fun_ext}
use Rattle.ckc_base.specs.Traces.{Stuck, Showing}
use Rattle.ckc_base.specs.Follows.{IsOver, Follows}
use Rattle.ckc_base.specs.Steps.{Move, Goes, Halts, System, after, shown, meaning}
use Rattle.ckc_base.specs.Matching.{Stretch, Closes, MatchedBy}
use Rattle.ckc_base.proofs.Runs.{follows_by_pairs}

-- One move of the upper system is matched from the state t of the lower one, in at most most steps: by a stretch with
-- the same events to a related state, of at least one step unless the measure there is less than left; or by a halt.
abbrev pub MatchedBelow : {E S T : Type 0} → System E T → (R : S → T → Type 0) → ((s : S) (t : T) → R s t → ℕ) → ℕ → T → ℕ → Move E S → Type 0
MatchedBelow {E} {S} {T} b R measure left t most (Goes events next) =
    (count : ℕ) × (u : T) × (r : R next u) × (count ≤ most) × ((1 ≤ count) ⊎ (measure next u r < left)) × Stretch b count events t u
MatchedBelow b R measure left t most (Halts events standing) =
    (standing ≡ Stuck) ⊎ ((count : ℕ) × (count ≤ most) × IsOver standing × Closes b count events t standing)

module _ {E S T : Type 0} (a : System E S) (b : System E T) (R : S → T → Type 0) (measure : (s : S) (t : T) → R s t → ℕ) (c : ℕ) where
  -- an upper and a lower state that are related
  record Pair : Type 0 where
    upper : S
    lower : T
    related : R upper lower

  abbrev left_at : Pair → ℕ
  left_at p = measure p.upper p.lower p.related

  abbrev Matches : Type 0
  Matches = (s : S) (t : T) (r : R s t) → MatchedBelow b R measure (measure s t r) t (c * (a.weight s + 1)) (a.step s)

  -- the upper move, on pairs
  onward : (left : ℕ) (t : T) (most : ℕ) (move : Move E S) → MatchedBelow b R measure left t most move → Move E Pair
  onward left t most (Goes events next) m = Goes events (record { upper = next; lower = m.1; related = m.2 })
  onward left t most (Halts events standing) m = Halts events standing

  module _ (matches : Matches) where
    pair_step : Pair → Move E Pair
    pair_step p = onward (left_at p) p.lower (c * (a.weight p.upper + 1)) (a.step p.upper) (matches p.upper p.lower p.related)

    abbrev pairs : System E Pair
    pairs = record { step = pair_step; weight = λ p. a.weight p.upper }

    matched : (p : Pair) (most : ℕ) (move : Move E S) (m : MatchedBelow b R measure (left_at p) p.lower most move)
        → MatchedBy b (λ (q : Pair). q) (λ (q : Pair). q.lower) left_at p p.lower most (onward (left_at p) p.lower most move m)
    unfolding onward
    matched p most (Goes events next) m =
        (m.0, record { upper = next; lower = m.1; related = m.2 }, m.3, m.4, m.5, refl)
    matched p most (Halts events standing) m = m

    all_matched : (p : Pair) → MatchedBy b (λ (q : Pair). q) (λ (q : Pair). q.lower) left_at p p.lower (c * (a.weight p.upper + 1)) (pair_step p)
    unfolding pair_step
    all_matched p = matched p (c * (a.weight p.upper + 1)) (a.step p.upper) (matches p.upper p.lower p.related)

    after-onward : (n left : ℕ) (t : T) (most : ℕ) (trace : List E) (move : Move E S) (m : MatchedBelow b R measure left t most move)
        → ((events : List E) (q : Pair) → shown pairs n (a.weight q.upper) events q ≡ shown a n (a.weight q.upper) events q.upper)
        → after (λ events q. shown pairs n (a.weight q.upper) events q) trace (onward left t most move m)
        ≡ after (λ events s. shown a n (a.weight s) events s) trace move
    unfolding onward
    after-onward n left t most trace (Goes events next) m same =
        same (trace ++ events) (record { upper = next; lower = m.1; related = m.2 })
    after-onward n left t most trace (Halts events standing) m same = refl

    shown-pairs : (n wait : ℕ) (trace : List E) (p : Pair) → shown pairs n wait trace p ≡ shown a n wait trace p.upper
    unfolding shown pair_step
    shown-pairs zero wait trace p = refl
    shown-pairs (suc n) zero trace p =
        after-onward n (left_at p) p.lower (c * (a.weight p.upper + 1)) trace (a.step p.upper) (matches p.upper p.lower p.related)
        (λ events q. shown-pairs n (a.weight q.upper) events q)
    shown-pairs (suc n) (suc wait) trace p = shown-pairs n wait trace p

    -- from related states the lower system follows the upper one
    pub follows_by_falling : (s : S) (t : T) → R s t → Follows (meaning a s) (meaning b t) c
    follows_by_falling s t r =
        let p : Pair = record { upper = s; lower = t; related = r } in
        let same : meaning pairs p ≡ meaning a s = fun_ext (λ n. shown-pairs n (a.weight s) [] p) in
        let P : (ℕ → Showing E) → Type 0 = λ f. Follows f (meaning b t) c in
        subst P same (follows_by_pairs pairs b (λ (q : Pair). q) (λ (q : Pair). q.lower) left_at c all_matched p)
