-- Laws of verdicts.
use Rattle.std.proofs.Common.{refl, ◌≡◌, ◌<◌, ◌+◌, ℕ, suc, length, List, [], ◌∷◌, ◌++◌, get_or, drop, ap, sym, ◌∙◌, drop-cons, add-one}
use Rattle.std.specs.Prelude.{Ok, Err, flat_map, map, IsErrAnd}
use Rattle.std.specs.Option.{option_or}
use Rattle.ckc_base.specs.declared.places.Pos.{Pos}
use Rattle.ckc_base.specs.declared.places.Refusal.{Refusal}
use Rattle.ckc_base.specs.declared.arithmetic.Mode.{Mode}
use Rattle.ckc_base.specs.declared.arithmetic.Mode.TheVariants.{Unchecked}
use Rattle.ckc_syntax.specs.declared.tree.Item.{Item}
use Rattle.ckc_syntax.specs.declared.tree.Name.{Name}
use Rattle.ckc_typed.specs.declared.typed.Note.{Note}
use Rattle.ckc_typed.specs.Walk.{Spot, Matter, spot, spots_of_item, spots_of_items, pragma_after}
use Rattle.ckc_typed.specs.Scoped.{fault_at}
use Rattle.ckc_scopes.specs.code.Verdict.{Verdict, then, refused, verdict, first}

pub first_append : (xs ys : List Pos) → first (xs ++ ys) ≡ option_or (first xs) (first ys)
first_append [] ys = refl
first_append (x ∷ xs) ys = refl

-- the first of the places of the first declaration that has some
pub first_turn : {X : Type 0} (f : X → List Pos) (xs : List X) (i : ℕ) (x : X) → i < length xs → x ≡ get_or xs i x →
    first (flat_map f (drop i xs)) ≡ option_or (first (f x)) (first (flat_map f (drop (i + 1) xs)))
first_turn f xs i x h e =
    rw (add-one, drop-cons xs i x) (ap (λ y. first (f y ++ flat_map f (drop (suc i) xs))) (sym e) ∙ first_append (f x) (flat_map f (drop (suc i) xs)))

then_assoc : (u v w : Verdict) → then (then u v) w ≡ then u (then v w)
then_assoc (Ok x) v w = refl
then_assoc (Err r) v w = refl

module _ (items : List (Item Name Note)) where
  pub verdict_append : (xs ys : List Spot) → verdict items (xs ++ ys) ≡ then (verdict items xs) (verdict items ys)
  verdict_append [] ys = refl
  verdict_append (x ∷ xs) ys =
      ap (λ v. then (refused (fault_at items x) x.at) v) (verdict_append xs ys)
      ∙ sym (then_assoc (refused (fault_at items x) x.at) (verdict items xs) (verdict items ys))

  -- in an unchecked scope nothing is at fault
  pub verdict_unchecked : {X : Type 0} (f : X → Pos) (g : X → Matter) (xs : List X) → verdict items (map (λ x. spot Unchecked (f x) (g x)) xs) ≡ Ok tt
  verdict_unchecked f g [] = refl
  verdict_unchecked f g (x ∷ xs) = verdict_unchecked f g xs

  -- the first of two lists of spots has a fault
  pub stops : (xs ys all : List Spot) (r v : Verdict) (y : Refusal) → IsErrAnd r (λ z. z ≡ y) → v ≡ Err y → v ≡ verdict items xs → all ≡ xs ++ ys → r ≡ verdict items all
  stops xs ys all (Ok x) v y h e f g = absurd h
  stops xs ys all (Err z) v y h e f g =
      let m : then (verdict items xs) (verdict items ys) ≡ Err y = ap (λ u. then u (verdict items ys)) (sym f ∙ e) in
      ap (λ u. Err u) h ∙ sym m ∙ sym (verdict_append xs ys) ∙ ap (λ s. verdict items s) (sym g)

  -- it has none
  pub goes : (xs ys all : List Spot) (r v : Verdict) → v ≡ Ok tt → v ≡ verdict items xs → r ≡ verdict items ys → all ≡ xs ++ ys → r ≡ verdict items all
  goes xs ys all r v e f h g =
      h ∙ ap (λ u. then u (verdict items ys)) (sym e ∙ f) ∙ sym (verdict_append xs ys) ∙ ap (λ s. verdict items s) (sym g)

  -- one turn of a loop over parts
  module _ {X : Type 0} (f : X → List Spot) (xs : List X) (i : ℕ) (x : X) (v : Verdict) where
    split : i < length xs → x ≡ get_or xs i x → flat_map f (drop i xs) ≡ f x ++ flat_map f (drop (i + 1) xs)
    split h e = rw (add-one, drop-cons xs i x) (ap (λ y. f y ++ flat_map f (drop (suc i) xs)) (sym e))

    pub loop_stops : (r : Verdict) (y : Refusal) → i < length xs → x ≡ get_or xs i x → verdict items (flat_map f xs) ≡ verdict items (flat_map f (drop i xs)) →
        IsErrAnd r (λ z. z ≡ y) → v ≡ Err y → v ≡ verdict items (f x) → r ≡ verdict items (flat_map f xs)
    loop_stops r y h e k o p q = stops (f x) (flat_map f (drop (i + 1) xs)) (flat_map f (drop i xs)) r v y o p q (split h e) ∙ sym k

    pub loop_goes : i < length xs → x ≡ get_or xs i x → verdict items (flat_map f xs) ≡ verdict items (flat_map f (drop i xs)) →
        v ≡ Ok tt → v ≡ verdict items (f x) → verdict items (flat_map f xs) ≡ verdict items (flat_map f (drop (i + 1) xs))
    loop_goes h e k p q =
        k ∙ sym (goes (f x) (flat_map f (drop (i + 1) xs)) (flat_map f (drop i xs)) (verdict items (flat_map f (drop (i + 1) xs))) v p q refl (split h e))

  -- one turn of the loop over the items of a text
  module _ (xs : List (Item Name Note)) (all : List Spot) (pragma : Mode) (i : ℕ) (x : Item Name Note) (v : Verdict) where
    split_items : i < length xs → x ≡ get_or xs i x → spots_of_items pragma (drop i xs) ≡ spots_of_item pragma x ++ spots_of_items (pragma_after pragma x) (drop (i + 1) xs)
    split_items h e = rw (add-one, drop-cons xs i x) (ap (λ y. spots_of_item pragma y ++ spots_of_items (pragma_after pragma y) (drop (suc i) xs)) (sym e))

    pub items_stop : (r : Verdict) (y : Refusal) → i < length xs → x ≡ get_or xs i x → verdict items all ≡ verdict items (spots_of_items pragma (drop i xs)) →
        IsErrAnd r (λ z. z ≡ y) → v ≡ Err y → v ≡ verdict items (spots_of_item pragma x) → r ≡ verdict items all
    items_stop r y h e k o p q =
        stops (spots_of_item pragma x) (spots_of_items (pragma_after pragma x) (drop (i + 1) xs)) (spots_of_items pragma (drop i xs)) r v y o p q (split_items h e) ∙ sym k

    pub items_go : (next : Mode) → i < length xs → x ≡ get_or xs i x → verdict items all ≡ verdict items (spots_of_items pragma (drop i xs)) →
        v ≡ Ok tt → v ≡ verdict items (spots_of_item pragma x) → next ≡ pragma_after pragma x →
        verdict items all ≡ verdict items (spots_of_items next (drop (i + 1) xs))
    items_go next h e k p q n =
        let rest = spots_of_items (pragma_after pragma x) (drop (i + 1) xs) in
        k ∙ sym (goes (spots_of_item pragma x) rest (spots_of_items pragma (drop i xs)) (verdict items rest) v p q refl (split_items h e))
        ∙ ap (λ m. verdict items (spots_of_items m (drop (i + 1) xs))) (sym n)
