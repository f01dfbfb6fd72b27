-- What follows if some numbers are those from 0 on, each once, in some order.
use Rattle.std.proofs.Common.{◌≡◌, ℕ, zero, suc, ◌+◌, ◌<◌, ◌≤◌, sym, ap, refl, subst, Bool, true, false, List, [], ◌∷◌, length, eqb, arith}
use Rattle.std.specs.Prelude.{All}
use Rattle.std.specs.List.{Contains, IsDistinct, AllByRecursion}
use Rattle.std.specs.List.Sorted.{IsPermutation}
use Rattle.std.proofs.lemmas.Bool.{eqb-true, eq-eqb}
use Rattle.std.proofs.lemmas.List.Elements.{All-nil, All-cons}
use Rattle.std.proofs.lemmas.List.Sorted.{All-permutation, Contains-permutation, length_permutation}
use Rattle.std.proofs.lemmas.Map.Keys.{IsDistinct-IsPermutation}
use Rattle.ckc_typed_fit.specs.Numbers.{CountsFrom, AreNumbered}

pub unlike : (m n : ℕ) → (m ≡ n → ⊥) → eqb m n ≡ false
unlike m n h = by (eqb m n) refl
  where
    by : (b : Bool) → eqb m n ≡ b → eqb m n ≡ false
    by true e = absurd (h (eqb-true m n e))
    by false e = e

flips : (m n : ℕ) → eqb m n ≡ eqb n m
flips m n = by (eqb n m) refl
  where
    by : (b : Bool) → eqb n m ≡ b → eqb m n ≡ eqb n m
    by true e = subst (λ k. eqb m k ≡ eqb k m) (sym (eqb-true n m e)) refl
    by false e = let d : eqb m n ≡ false = unlike m n (λ f. wrong (sym e) (eq-eqb n m (sym f))) in subst (λ b. eqb m n ≡ b) (sym e) d
      where
        wrong : false ≡ eqb n m → eqb n m ≡ true → ⊥
        wrong f g = cc

after_apart : (j k : ℕ) (ns : List ℕ) → j < k → CountsFrom k ns → AllByRecursion (λ n. eqb j n ≡ false) ns
after_apart j k [] l h = tt
after_apart j k (n ∷ ns) l h = (unlike j n (λ e. let f = h.0 in omega (arith, e, f, l)), after_apart j (k + 1) ns (omega (arith, l)) h.1)

counted_distinct : (k : ℕ) (ns : List ℕ) → CountsFrom k ns → IsDistinct eqb ns
unfolding IsDistinct
counted_distinct k [] h = tt
counted_distinct k (n ∷ ns) h = (subst (λ m. AllByRecursion (λ i. eqb m i ≡ false) ns) (sym h.0) (after_apart k (k + 1) ns (omega arith) h.1), counted_distinct (k + 1) ns h.1)

counted_below : (k m : ℕ) (ns : List ℕ) → k + length ns ≤ m → CountsFrom k ns → All (λ n. n < m) ns
counted_below k m [] l h = All-nil (λ n. n < m)
counted_below k m (n ∷ ns) l h = All-cons (λ n. n < m) n ns (let e = h.0 in omega (arith, e, l)) (counted_below (k + 1) m ns (omega (arith, l)) h.1)

counted_there : (k i : ℕ) (ns : List ℕ) → i < length ns → CountsFrom k ns → Contains ns (k + i)
counted_there k i [] l h = absurd (omega (arith, l))
counted_there k zero (n ∷ ns) l h = let e : n ≡ k + 0 = (let f = h.0 in omega (arith, f)) in subst (Contains (n ∷ ns)) e (0, omega arith, refl)
counted_there k (suc i) (n ∷ ns) l h =
    let e : k + 1 + i ≡ k + suc i = omega arith in
    let c : Contains ns (k + suc i) = subst (Contains ns) e (counted_there (k + 1) i ns (omega (arith, l)) h.1) in
    (suc c.0, (let b = c.1 in omega (arith, b)), c.2)

module _ (ns : List ℕ) (h : AreNumbered ns) where
  pub once : IsDistinct eqb ns
  once = IsDistinct-IsPermutation eqb flips h.0 ns h.2 (counted_distinct 0 h.0 h.1)

  as_long : length ns ≡ length h.0
  as_long = length_permutation h.0 ns h.2

  pub all_below : All (λ n. n < length ns) ns
  all_below = All-permutation (λ n. n < length ns) h.0 ns h.2 (counted_below 0 (length ns) h.0 (let e = as_long in omega (arith, e)) h.1)

  pub each_there : (k : ℕ) → k < length ns → Contains ns k
  each_there k l =
      let e : 0 + k ≡ k = omega arith in
      Contains-permutation h.0 ns k h.2 (subst (Contains h.0) e (counted_there 0 k h.0 (let s = as_long in omega (arith, l, s)) h.1))
