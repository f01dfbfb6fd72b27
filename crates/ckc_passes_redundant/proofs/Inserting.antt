-- Sets that keep their keys in the order of insertion, where `==` of keys is equality of values.
use Rattle.std.proofs.Common.{◌≡◌, ◌⊎◌, inl, inr, ⊎_elim, ℕ, zero, suc, ◌<◌, ◌≤◌, Bool, true, false, not, List, [], ◌∷◌, ◌++◌, Some, refl, sym, ap, subst, ◌∙◌, cond, arith}
use Rattle.std.specs.Prelude.{Contains}
use Rattle.std.specs.Bool.{MatchBool}
use Rattle.std.specs.List.{slice_get, list_any, IsDistinct}
use Rattle.std.proofs.lemmas.Bool.{cases_lt, true≢false}
use Rattle.std.proofs.lemmas.List.Elements.{Contains-append_left, Contains-push_cases}
use Rattle.std.proofs.lemmas.Map.Keys.{apart_from_distinct, any_passes_from_place}
use Rattle.std.proofs.lemmas.Option.{slice_get_within, get_or_from_slice_get, slice_get-get_or}
use Rattle.indexmap.specs.IndexSet.{insert_key}
use Rattle.indexmap.proofs.CallerLemmas.{Contains-list_any, Contains-insert_key}

-- what stands at a place of a list stands there in a longer one
still_at : {X : Type 0} (xs ys : List X) (i : ℕ) (x : X) → slice_get xs i ≡ Some x → slice_get (xs ++ ys) i ≡ Some x
still_at [] ys i x e = absurd cc
still_at (y ∷ xs) ys zero x e = e
still_at (y ∷ xs) ys (suc i) x e = still_at xs ys i x e

module _ {K : Type 0} (eq : K → K → Bool) where
  -- no key stands twice
  pub once : ((x : K) → eq x x ≡ true) → (ks : List K) → IsDistinct eq ks → (i j : ℕ) (k : K) → slice_get ks i ≡ Some k → slice_get ks j ≡ Some k → i ≡ j
  once itself ks d i j k at too = ⊎_elim
      (λ (less : i < j). absurd (apart i j less at too))
      (λ (more : j ≤ i). ⊎_elim (λ (less : j < i). absurd (apart j i less too at)) (λ (h : i ≤ j). omega arith) (cases_lt j i)) (cases_lt i j)
    where
      apart : (a b : ℕ) → a < b → slice_get ks a ≡ Some k → slice_get ks b ≡ Some k → ⊥
      apart a b less e f =
          let g = apart_from_distinct eq ks a b k d less (slice_get_within ks b k f) in
          true≢false (sym (itself k) ∙ sym (λ i. eq (get_or_from_slice_get ks a k k e i) (get_or_from_slice_get ks b k k f i)) ∙ g)

  -- what stood at a place stands there
  pub stays : (ks : List K) (k : K) (i : ℕ) (other : K) → slice_get ks i ≡ Some other → slice_get (insert_key eq ks k) i ≡ Some other
  stays ks k i other e = by (list_any (eq k) ks)
    where
      by : (b : Bool) → slice_get (cond b ks (ks ++ k ∷ [])) i ≡ Some other
      by true = e
      by false = still_at ks (k ∷ []) i other e

  -- ---- what the set has

  pub found : ((x y : K) → eq x y ≡ true → x ≡ y) → ((x : K) → eq x x ≡ true) → (ks : List K) (k : K) (is_new : Bool) → is_new ≡ not (list_any (eq k) ks)
      → MatchBool (not is_new) (Contains ks k) (Contains ks k → ⊥)
  found same itself ks k is_new e = subst (λ b. MatchBool (not b) (Contains ks k) (Contains ks k → ⊥)) (sym e) (by (list_any (eq k) ks) refl)
    where
      contained : Contains ks k → list_any (eq k) ks ≡ true
      contained c = any_passes_from_place (eq k) ks c.0 k (slice_get-get_or ks c.0 k c.1 ∙ ap Some c.2) (itself k)

      by : (b : Bool) → list_any (eq k) ks ≡ b → MatchBool (not (not b)) (Contains ks k) (Contains ks k → ⊥)
      by true h = Contains-list_any eq same ks k h
      by false h = λ c. true≢false (sym (contained c) ∙ h)

  pub is_there : ((x y : K) → eq x y ≡ true → x ≡ y) → (ks : List K) (k : K) → Contains (insert_key eq ks k) k
  is_there same ks k = Contains-insert_key eq same ks k

  pub still_there : (ks : List K) (k other : K) → Contains ks other → Contains (insert_key eq ks k) other
  still_there ks k other c = by (list_any (eq k) ks)
    where
      by : (b : Bool) → Contains (cond b ks (ks ++ k ∷ [])) other
      by true = c
      by false = Contains-append_left ks (k ∷ []) other c

  pub there_or_new : (ks : List K) (k other : K) → Contains (insert_key eq ks k) other → Contains ks other ⊎ (other ≡ k)
  there_or_new ks k other = by (list_any (eq k) ks)
    where
      by : (b : Bool) → Contains (cond b ks (ks ++ k ∷ [])) other → Contains ks other ⊎ (other ≡ k)
      by true c = inl c
      by false c = ⊎_elim (λ h. inl h) (λ (h : k ≡ other). inr (sym h)) (Contains-push_cases ks k other c)
