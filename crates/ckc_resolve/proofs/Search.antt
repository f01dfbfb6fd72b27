-- Loops that look for an element.
use Rattle.std.proofs.Common.{◌≡◌, ◌<◌, ◌≤◌, ℕ, suc, ◌+◌, Bool, true, false, ◌||◌, List, length, drop, get_or, drop-cons, add-one, sym, ap, ◌∙◌}
use Rattle.std.specs.List.{list_any}
use Rattle.std.proofs.lemmas.List.{drop_all}

-- what is left has such an element exactly when the whole does
module _ {X : Type 0} (p : X → Bool) (xs : List X) (i : ℕ) (kept : list_any p xs ≡ list_any p (drop i xs)) where
  module _ (x : X) (here : i < length xs) (is : x ≡ get_or xs i x) where
    any_turn : list_any p xs ≡ (p x || list_any p (drop (i + 1) xs))
    any_turn = kept ∙ ap (list_any p) (drop-cons xs i x here) ∙ ap (λ y. p y || list_any p (drop (suc i) xs)) (sym is) ∙ ap (λ n. p x || list_any p (drop n xs)) (sym (add-one i))

    pub any_here : p x ≡ true → true ≡ list_any p xs
    any_here t = sym (any_turn ∙ ap (λ b. b || list_any p (drop (i + 1) xs)) t)

    pub any_behind : p x ≡ false → list_any p xs ≡ list_any p (drop (i + 1) xs)
    any_behind t = any_turn ∙ ap (λ b. b || list_any p (drop (i + 1) xs)) t

  pub any_nowhere : length xs ≤ i → false ≡ list_any p xs
  any_nowhere h = sym (kept ∙ ap (list_any p) (drop_all i xs h))
