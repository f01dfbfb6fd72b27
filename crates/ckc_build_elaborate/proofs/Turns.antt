-- Loops over lists: what is done, and what the rest will give.
use Rattle.std.proofs.Common.{◌≡◌, ◌<◌, ◌≤◌, ℕ, zero, suc, ◌+◌, List, [], ◌∷◌, ◌++◌, length, map, drop, get_or, drop-cons, add-one, refl, sym, ap, ◌∙◌, append_assoc, append-nil, arith}
use Rattle.std.specs.Prelude.{Option, Some, None, Result, Ok, Err, OnOk, slice_get}
use Rattle.std.specs.List.{flat_map}
use Rattle.std.proofs.lemmas.List.{drop_all, map-append}
use Rattle.ckc_build_elaborate.specs.Lists.{beside, numbered}

-- ---- one list beside another

module _ {A B C : Type 0} (f : Option A → B → C) where
  pub beside_turn : (i : ℕ) (xs : List A) (ys : List B) (y : B) → i < length ys → y ≡ get_or ys i y → beside f (drop i xs) (drop i ys) ≡ f (slice_get xs i) y ∷ beside f (drop (suc i) xs) (drop (suc i) ys)
  beside_turn i xs [] y h e = absurd (omega arith)
  beside_turn zero [] (z ∷ ys) y h e = ap (λ w. f None w ∷ beside f [] ys) (sym e)
  beside_turn zero (x ∷ xs) (z ∷ ys) y h e = ap (λ w. f (Some x) w ∷ beside f xs ys) (sym e)
  beside_turn (suc i) [] (z ∷ ys) y h e = ap (λ d. beside f d (drop i ys)) (sym (drop_all i [] (omega arith))) ∙ beside_turn i [] ys y (omega arith) e ∙ ap (λ d. f None y ∷ beside f d (drop (suc i) ys)) refl
  beside_turn (suc i) (x ∷ xs) (z ∷ ys) y h e = beside_turn i xs ys y (omega arith) e

  module _ (xs : List A) (ys : List B) (whole done more : List C) (i : ℕ) (kept : done ++ beside f (drop i xs) (drop i ys) ≡ whole) where
    pub beside_more : (y : B) (c : C) → i < length ys → y ≡ get_or ys i y → c ≡ f (slice_get xs i) y → more ≡ done ++ c ∷ [] → more ++ beside f (drop (i + 1) xs) (drop (i + 1) ys) ≡ whole
    beside_more y c h e q m =
        ap (λ d. d ++ beside f (drop (i + 1) xs) (drop (i + 1) ys)) m
        ∙ append_assoc done (c ∷ []) (beside f (drop (i + 1) xs) (drop (i + 1) ys))
        ∙ rw add-one (ap (λ d. done ++ d ∷ beside f (drop (suc i) xs) (drop (suc i) ys)) q ∙ ap (λ d. done ++ d) (sym (beside_turn i xs ys y h e)) ∙ kept)

    pub beside_end : length ys ≤ i → done ≡ whole
    beside_end h = sym (append-nil done) ∙ ap (λ d. done ++ beside f (drop i xs) d) (sym (drop_all i ys h)) ∙ kept

-- ---- a list of lists

module _ {X C : Type 0} (f : X → List C) (xs : List X) (i : ℕ) where
  pub flat_turn : (x : X) → i < length xs → x ≡ get_or xs i x → flat_map f (drop i xs) ≡ f x ++ flat_map f (drop (i + 1) xs)
  flat_turn x h e = rw (add-one, drop-cons xs i x) (ap (λ y. f y ++ flat_map f (drop (suc i) xs)) (sym e))

  module _ (whole done more : List C) (kept : done ++ flat_map f (drop i xs) ≡ whole) where
    pub flat_more : (x : X) → i < length xs → x ≡ get_or xs i x → more ≡ done ++ f x → more ++ flat_map f (drop (i + 1) xs) ≡ whole
    flat_more x h e m =
        ap (λ d. d ++ flat_map f (drop (i + 1) xs)) m ∙ append_assoc done (f x) (flat_map f (drop (i + 1) xs))
        ∙ ap (λ d. done ++ d) (sym (flat_turn x h e)) ∙ kept

    pub flat_end : length xs ≤ i → done ≡ whole
    flat_end h = sym (append-nil done) ∙ ap (λ d. done ++ flat_map f d) (sym (drop_all i xs h)) ∙ kept

-- ---- a list that is seen as another

pub on_ok : {T E A B : Type 0} (r : Result T E) → (A → B) → OnOk r A → OnOk r B
on_ok (Ok t) f a = f a
on_ok (Err e) f a = tt

pub map_more : {X Y : Type 0} (g : X → Y) (all new : List X) (x : X) (y : Y) → new ≡ all ++ x ∷ [] → g x ≡ y → map g new ≡ map g all ++ y ∷ []
map_more g all new x y e q = ap (map g) e ∙ map-append g all (x ∷ []) ∙ ap (λ z. map g all ++ z ∷ []) q

-- ---- a list in which each element has a number

module _ {X Y C : Type 0} (h : Y → X) (make : ℕ → X → List C) (counts : X → ℕ) (ys : List Y) (i k : ℕ) where
  pub numbered_turn : (y : Y) → i < length ys → y ≡ get_or ys i y → numbered make counts k (map h (drop i ys)) ≡ make k (h y) ++ numbered make counts (k + counts (h y)) (map h (drop (i + 1) ys))
  numbered_turn y l e =
      rw (add-one, drop-cons ys i y) (ap (λ z. make k (h z) ++ numbered make counts (k + counts (h z)) (map h (drop (suc i) ys))) (sym e))

  module _ (whole done more : List C) (kept : done ++ numbered make counts k (map h (drop i ys)) ≡ whole) where
    pub numbered_more : (y : Y) (next : ℕ) → i < length ys → y ≡ get_or ys i y → next ≡ k + counts (h y) → more ≡ done ++ make k (h y) → more ++ numbered make counts next (map h (drop (i + 1) ys)) ≡ whole
    numbered_more y next l e n m =
        ap (λ d. d ++ numbered make counts next (map h (drop (i + 1) ys))) m
        ∙ append_assoc done (make k (h y)) (numbered make counts next (map h (drop (i + 1) ys)))
        ∙ ap (λ j. done ++ (make k (h y) ++ numbered make counts j (map h (drop (i + 1) ys)))) n
        ∙ ap (λ d. done ++ d) (sym (numbered_turn y l e)) ∙ kept

    pub numbered_end : length ys ≤ i → done ≡ whole
    numbered_end l = sym (append-nil done) ∙ ap (λ d. done ++ numbered make counts k (map h d)) (sym (drop_all i ys l)) ∙ kept

-- the same, if the elements are as they stand
module _ {X C : Type 0} (make : ℕ → X → List C) (counts : X → ℕ) where
  map_same : (xs : List X) → map (λ x. x) xs ≡ xs
  map_same [] = refl
  map_same (x ∷ xs) = ap (λ r. x ∷ r) (map_same xs)

  module _ (xs : List X) (i k : ℕ) (whole done more : List C) (kept : done ++ numbered make counts k (drop i xs) ≡ whole) where
    pub plain_more : (x : X) (next : ℕ) → i < length xs → x ≡ get_or xs i x → next ≡ k + counts x → more ≡ done ++ make k x → more ++ numbered make counts next (drop (i + 1) xs) ≡ whole
    plain_more x next l e n m =
        ap (λ r. more ++ numbered make counts next r) (sym (map_same (drop (i + 1) xs)))
        ∙ numbered_more (λ y. y) make counts xs i k whole done more (ap (λ r. done ++ numbered make counts k r) (map_same (drop i xs)) ∙ kept) x next l e n m

    pub plain_end : length xs ≤ i → done ≡ whole
    plain_end l = sym (append-nil done) ∙ ap (λ d. done ++ numbered make counts k d) (sym (drop_all i xs l)) ∙ kept
