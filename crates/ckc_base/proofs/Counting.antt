-- Compiled code shows at most one event a step, and as many calls are active as were entered and did not return, and
-- the first one.
use Rattle.std.proofs.Common.{◌≡◌, ◌⊎◌, inl, inr, ℕ, zero, suc, ◌+◌, List, [], ◌∷◌, ◌++◌, append-nil, length, length-append, refl, sym, ◌∙◌, ap, subst, arith}
use Rattle.std.specs.Prelude.{flat_map}
use Rattle.std.proofs.lemmas.Grind.{flat_map-append}
use Rattle.ckc_base.specs.LongEvents.{LongEvent, Entered, Returned}
use Rattle.ckc_base.specs.Steps.{Move, Goes, Halts, System, after, shown, meaning}
use Rattle.ckc_base.specs.States.{moved_on, state_after, state_at}
use Rattle.ckc_base.proofs.Joining.{Grows, is_entered, is_returned, entered, returned, SameCalls}

-- a move shows at most one event
abbrev pub IsShort : {E S : Type 0} → Move E S → Type 0
IsShort (Goes [] next) = Unit {0}
IsShort (Goes (e ∷ []) next) = Unit {0}
IsShort (Goes (e ∷ f ∷ events) next) = ⊥
IsShort (Halts [] how) = Unit {0}
IsShort (Halts (e ∷ events) how) = ⊥

abbrev Adds : {E : Type 0} → List E → List E → Type 0
Adds {E} xs ys = (ys ≡ xs) ⊎ ((e : E) × (ys ≡ xs ++ e ∷ []))

module _ {E S : Type 0} (m : System E S) (short : (s : S) → IsShort (m.step s)) where
  first_adds : (trace : List E) (move : Move E S) → IsShort move → Adds trace (after (λ events next. shown m 0 (m.weight next) events next) trace move).trace
  unfolding shown
  first_adds trace (Goes [] next) h = inl (append-nil trace)
  first_adds trace (Goes (e ∷ []) next) h = inr (e, refl)
  first_adds trace (Goes (e ∷ f ∷ events) next) h = absurd h
  first_adds trace (Halts [] how) h = inl (append-nil trace)
  first_adds trace (Halts (e ∷ events) how) h = absurd h

  later_adds : (n : ℕ) (trace : List E) (move : Move E S) → ((trace : List E) (s : S) → Adds (shown m n (m.weight s) trace s).trace (shown m (suc n) (m.weight s) trace s).trace)
      → Adds (after (λ events next. shown m n (m.weight next) events next) trace move).trace (after (λ events next. shown m (suc n) (m.weight next) events next) trace move).trace
  later_adds n trace (Goes events next) h = h (trace ++ events) next
  later_adds n trace (Halts events how) h = inl refl

  adds : (n wait : ℕ) (trace : List E) (s : S) → Adds (shown m n wait trace s).trace (shown m (suc n) wait trace s).trace
  unfolding shown
  adds zero zero trace s = first_adds trace (m.step s) (short s)
  adds zero (suc wait) trace s = inl refl
  adds (suc n) zero trace s = later_adds n trace (m.step s) (λ trace s. adds n (m.weight s) trace s)
  adds (suc n) (suc wait) trace s = adds n wait trace s

  -- the trace of a run grows by at most one event at a step
  pub run_grows : (s : S) → Grows (λ n. (meaning m s n).trace)
  run_grows s n =
      let e : suc n ≡ n + 1 = omega arith in
      subst (λ k. Adds (meaning m s n).trace (meaning m s k).trace) e (adds n (m.weight s) [] s)

entered_both : (xs ys : List LongEvent) → entered (xs ++ ys) ≡ entered xs + entered ys
entered_both xs ys = ap length (flat_map-append is_entered xs ys) ∙ length-append (flat_map is_entered xs) (flat_map is_entered ys)

returned_both : (xs ys : List LongEvent) → returned (xs ++ ys) ≡ returned xs + returned ys
returned_both xs ys = ap length (flat_map-append is_returned xs ys) ∙ length-append (flat_map is_returned xs) (flat_map is_returned ys)

-- a move changes how many calls are active as its events say
abbrev pub Counts : {S : Type 0} → (S → ℕ) → S → Move LongEvent S → Type 0
Counts active s (Goes events next) = active next + returned events ≡ active s + entered events
Counts active s (Halts events how) = (entered events ≡ 0) × (returned events ≡ 0)

module _ {S : Type 0} (m : System LongEvent S) (active : S → ℕ) (counts : (s : S) → Counts active s (m.step s)) where
  -- c calls were active before the trace
  abbrev Counted : ℕ → List LongEvent → S → Type 0
  Counted c trace s = active s + returned trace ≡ c + entered trace

  moved_counts : (c n : ℕ) (trace : List LongEvent) (s : S) (move : Move LongEvent S) → Counts active s move → Counted c trace s
      → ((trace : List LongEvent) (s : S) → Counted c trace s → Counted c (shown m n (m.weight s) trace s).trace (state_after m n (m.weight s) s))
      → Counted c (after (λ events next. shown m n (m.weight next) events next) trace move).trace (moved_on (λ next. state_after m n (m.weight next) next) s move)
  moved_counts c n trace s (Goes events next) k h again =
      again (trace ++ events) next (omega (arith, k, h, entered_both trace events, returned_both trace events))
  moved_counts c n trace s (Halts events how) k h again = omega (arith, k.0, k.1, h, entered_both trace events, returned_both trace events)

  counted : (c n wait : ℕ) (trace : List LongEvent) (s : S) → Counted c trace s → Counted c (shown m n wait trace s).trace (state_after m n wait s)
  unfolding shown state_after
  counted c zero wait trace s h = h
  counted c (suc n) zero trace s h = moved_counts c n trace s (m.step s) (counts s) h (λ trace s h. counted c n (m.weight s) trace s h)
  counted c (suc n) (suc wait) trace s h = counted c n wait trace s h

  -- as many calls are active as were entered less those that returned, and those at the start
  pub active_counted : (s : S) (n : ℕ) → active (state_at m s n) + returned (meaning m s n).trace ≡ active s + entered (meaning m s n).trace
  active_counted s n = counted (active s) n (m.weight s) [] s (omega arith)

-- if two runs have done the same calls and returns from as many active calls, as many are active
pub same_active : (a b c : ℕ) (xs ys : List LongEvent) → a + returned xs ≡ c + entered xs → b + returned ys ≡ c + entered ys → SameCalls xs ys → a ≡ b
same_active a b c xs ys h k s = omega (arith, h, k, s.ins, s.outs)
