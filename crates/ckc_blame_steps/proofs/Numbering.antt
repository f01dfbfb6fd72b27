-- Values and fresh variables are numbered on from one expression to the next, and valuations go on so.
use Rattle.std.proofs.Common.{◌≡◌, refl, ap, subst, ◌∙◌, ℕ, List, [], ◌∷◌, ◌++◌, map, arith}
use Rattle.std.specs.Prelude.{◌<◌, ◌≤◌, ◌^◌, ◌==◌, ◌-◌, Bool, true, false, if◌then◌else◌, ℤ, pos, slice_index, Option, Some}
use Rattle.std.proofs.lemmas.Bool.{eq-eqb, eqb-true}
use Rattle.ckc_linear.specs.declared.forms.Base.{Base}
use Rattle.ckc_linear.specs.declared.forms.Base.TheVariants as base
use Rattle.ckc_types.specs.declared.types.CType.{CType}
use Rattle.ckc_typed.specs.Trees.{NotedExpr}
use Rattle.ckc_blame_sound.specs.ckc_bounds_points.specs.Flow.{State}
use Rattle.ckc_blame_sound.specs.ckc_bounds_views.specs.Parts.{capped, next_behind}
use Rattle.ckc_blame_sound.specs.ckc_bounds_views.specs.Places.{values_after}
use Rattle.ckc_blame_sound.specs.ckc_bounds_views.specs.Views.{view}
use Rattle.ckc_blame_sound.specs.ckc_bounds_stores.specs.declared.values.Numbered.{Numbered}
use Rattle.ckc_build_values.specs.Names.{address_of}
use Rattle.ckc_blame_sound.specs.Settings.{Setting}
use Rattle.ckc_blame_sound.specs.Values.{value, value_in}
use Rattle.ckc_blame_sound.specs.Valuations.{Valuation, IsValuationOf, AreNumbersOf}
use Rattle.ckc_blame_sound.proofs.Flow.{integer_value}
use Rattle.ckc_blame_given.specs.Gives.{Continues}
use Rattle.ckc_blame_steps.specs.Arguments.{numbers_behind}

-- ---- numbers

-- numbers that are words
pub record AreWords (from : Numbered) : Type 0 where
  pub value : from.value ≤ 2 ^ 32 - 1
  pub fresh : from.fresh ≤ 2 ^ 32 - 1

-- some numbers come no later than others
pub record AreBefore (from there : Numbered) : Type 0 where
  pub value : from.value ≤ there.value
  pub fresh : from.fresh ≤ there.fresh

-- the numbers after those of some expressions
abbrev pub numbers_after : Setting → State → List NotedExpr → Numbered → Numbered
numbers_after s at [] from = from
numbers_after s at (e ∷ es) from = numbers_after s at es (numbers_behind s at e from)

module _ (s : Setting) (at : State) where
  pub behind_words : (e : NotedExpr) (from : Numbered) → AreWords (numbers_behind s at e from)
  behind_words e from = record { value = omega arith; fresh = omega arith }

  pub behind_later : (e : NotedExpr) (from : Numbered) → AreWords from → AreBefore from (numbers_behind s at e from)
  behind_later e from w = let a = w.value in let b = w.fresh in record { value = omega arith; fresh = omega arith }

  pub after_later : (es : List NotedExpr) (from : Numbered) → AreWords from → AreBefore from (numbers_after s at es from)
  after_later [] from w = record { value = omega arith; fresh = omega arith }
  after_later (e ∷ es) from w =
      let one = behind_later e from w in
      let more = after_later es (numbers_behind s at e from) (behind_words e from) in
      let a = one.value in
      let b = more.value in
      let c = one.fresh in
      let d = more.fresh in
      record { value = omega arith; fresh = omega arith }

  pub values_are : (es : List NotedExpr) (from : Numbered) → (numbers_after s at es from).value ≡ values_after from.value (map (view s.frame) es)
  values_are [] from = refl
  values_are (e ∷ es) from = values_are es (numbers_behind s at e from)

-- the fresh variables of two lists, one after another
pub numbers_joined : (v : Valuation) (ts us : List CType) (fresh : ℕ) → fresh ≤ 2 ^ 32 - 1 → AreNumbersOf v (capped fresh 1) ts → AreNumbersOf v (capped (next_behind fresh ts) 1) us
    → AreNumbersOf v (capped fresh 1) (ts ++ us)
numbers_joined v [] us fresh word one two = let same : next_behind fresh [] ≡ fresh = omega arith in subst (λ n. AreNumbersOf v (capped n 1) us) same two
numbers_joined v (t ∷ ts) us fresh word one two =
    let next : ℕ = capped fresh 1 in
    let small : next ≤ 2 ^ 32 - 1 = omega arith in
    let same : next_behind fresh (t ∷ ts) ≡ next_behind next ts = omega arith in
    (one.0, numbers_joined v ts us next small one.1 (subst (λ n. AreNumbersOf v (capped n 1) us) same two))

-- ---- valuations

pub continues_on : (first last next beyond : ℕ) (a b c : Valuation) → first ≤ next → last ≤ beyond → Continues first last a b → Continues next beyond b c → Continues first last a c
continues_on first last next beyond a b c f l one two = record {
  address = λ n h. two.address n (omega arith) ∙ one.address n h;
  number = λ x h. two.number x (omega arith) ∙ one.number x h;
}

-- a valuation of the locals
abbrev pub own_address : Setting → List ℕ → Option Base → ℤ
own_address s locals (Some (base.Local k)) = pos (slice_index locals k)
own_address s locals (Some (base.Array k)) = pos (address_of s.text k)
own_address s locals b = pos 0

abbrev pub own_valuation : Setting → List ℕ → Valuation
own_valuation s locals = record { number = value s.frame locals; address = own_address s locals }

pub own_values : (s : Setting) (locals : List ℕ) → IsValuationOf s locals (own_valuation s locals)
own_values s locals = record {
  zero = refl;
  number = λ k l there integer. ap (λ o. value_in o (slice_index locals k)) there ∙ integer_value l (slice_index locals k) integer;
  pointer = λ k. refl;
  array = λ k. refl;
}

-- a valuation with another address for the value with a number
abbrev pub address_with : ℕ → ℕ → (Option Base → ℤ) → Option Base → ℤ
address_with own n address (Some (base.Value k)) = if k == own then pos n else address (Some (base.Value k))
address_with own n address b = address b

abbrev pub valuation_with : ℕ → ℕ → Valuation → Valuation
valuation_with own n v = record v { address = address_with own n v.address }

pub with_values : (s : Setting) (locals : List ℕ) (own n : ℕ) (v : Valuation) → IsValuationOf s locals v → IsValuationOf s locals (valuation_with own n v)
with_values s locals own n v are = record { zero = are.zero; number = are.number; pointer = are.pointer; array = are.array }

pub with_own : (own n : ℕ) (v : Valuation) → (valuation_with own n v).address (Some (base.Value own)) ≡ pos n
with_own own n v = ap (λ b. if b then pos n else v.address (Some (base.Value own))) (eq-eqb own own refl)

pub with_continues : (own n last : ℕ) (v : Valuation) → Continues own last v (valuation_with own n v)
with_continues own n last v = record {
  address = λ k h. by k h (k == own) refl;
  number = λ x h. refl;
}
  where
    by : (k : ℕ) → k < own → (b : Bool) → (k == own) ≡ b → (if b then pos n else v.address (Some (base.Value k))) ≡ v.address (Some (base.Value k))
    by k h true e = let same : k ≡ own = eqb-true k own e in absurd (omega arith)
    by k h false e = refl
