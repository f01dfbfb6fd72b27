-- The first of places, of which some stand before the others.
use Rattle.std.proofs.Common.{◌≡◌, ◌<◌, ◌≤◌, ◌+◌, ℕ, suc, refl, sym, ap, ◌∙◌, List, [], ◌∷◌, ◌++◌, length, drop, get_or, drop-cons, add-one}
use Rattle.std.specs.Prelude.{Option, Some, None}
use Rattle.std.proofs.lemmas.List.{drop_all}
use Rattle.ckc_base.specs.declared.places.Pos.{Pos}
use Rattle.ckc_syntax.specs.Inside.{listed, inside_each}
use Rattle.ckc_plain_barred.specs.code.First.{first, either}

pub first_here : (xs ys : List Pos) (p : Pos) → first xs ≡ Some p → first (xs ++ ys) ≡ Some p
first_here [] ys p e = cc
first_here (x ∷ xs) ys p e = e

pub first_there : (xs ys : List Pos) → first xs ≡ None → first (xs ++ ys) ≡ first ys
first_there [] ys e = refl
first_there (x ∷ xs) ys e = cc

pub first_left : (xs : List Pos) → first (xs ++ []) ≡ first xs
first_left [] = refl
first_left (x ∷ xs) = refl

-- a loop over parts
module _ {X : Type 0} (f : X → List Pos) (xs : List X) (i : ℕ) (x : X) (here : i < length xs) (is : x ≡ get_or xs i x) where
  turn : inside_each listed f (drop i xs) ≡ f x ++ inside_each listed f (drop (i + 1) xs)
  turn = rw (add-one, drop-cons xs i x here) (ap (λ y. f y ++ inside_each listed f (drop (suc i) xs)) (sym is))

  pub turn_stops : (p : Option Pos) (q : Pos) → p ≡ first (inside_each listed f (drop i xs)) → first (f x) ≡ Some q → p ≡ Some q
  turn_stops p q kept e = kept ∙ ap first turn ∙ first_here (f x) (inside_each listed f (drop (i + 1) xs)) q e

  pub turn_goes : (p : Option Pos) → p ≡ first (inside_each listed f (drop i xs)) → first (f x) ≡ None → p ≡ first (inside_each listed f (drop (i + 1) xs))
  turn_goes p kept e = kept ∙ ap first turn ∙ first_there (f x) (inside_each listed f (drop (i + 1) xs)) e

pub turn_ends : {X : Type 0} (f : X → List Pos) (xs : List X) (i : ℕ) (p : Option Pos) → length xs ≤ i → p ≡ first (inside_each listed f (drop i xs)) → p ≡ None
turn_ends f xs i p h kept = kept ∙ ap (λ ys. first (inside_each listed f ys)) (drop_all i xs h)

pub first_both : (xs ys : List Pos) → first (xs ++ ys) ≡ either (first xs) (first ys)
first_both [] ys = refl
first_both (x ∷ xs) ys = refl

-- the first of two parts, each of which gives the first of its own
pub both_are : (r a b : Option Pos) (xs ys : List Pos) → r ≡ either a b → a ≡ first xs → b ≡ first ys → r ≡ first (xs ++ ys)
both_are r a b xs ys e p q = e ∙ ap (λ z. either z b) p ∙ ap (λ z. either (first xs) z) q ∙ sym (first_both xs ys)
