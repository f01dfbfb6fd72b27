-- Lists that are compared part by part.
use Rattle.std.proofs.Common.{◌≡◌, ◌<◌, ◌≤◌, ℕ, suc, ◌+◌, Bool, true, false, ◌&&◌, List, [], ◌∷◌, length, map, drop, get_or, drop-cons, add-one, refl, sym, ap, ◌∙◌, arith}
use Rattle.std.proofs.lemmas.List.{drop_all}
use Rattle.ckc_syntax.specs.code.SameParts.{pass_all}

and_false : (b : Bool) → (b && false) ≡ false
and_false true = refl
and_false false = refl

module _ {X : Type 0} (same : X → X → Bool) where
  abbrev pub from : ℕ → List X → List X → Bool
  from i xs ys = pass_all (map same (drop i xs)) (drop i ys)

  pub unlike : (xs ys : List X) → (length xs ≡ length ys → ⊥) → pass_all (map same xs) ys ≡ false
  unlike [] [] d = absurd (d refl)
  unlike [] (y ∷ ys) d = refl
  unlike (x ∷ xs) [] d = refl
  unlike (x ∷ xs) (y ∷ ys) d = ap (λ b. same x y && b) (unlike xs ys (λ e. d (ap (λ n. suc n) e))) ∙ and_false (same x y)

  module _ (xs ys : List X) (i : ℕ) where
    turn : (x y : X) → i < length xs → i < length ys → x ≡ get_or xs i x → y ≡ get_or ys i y → from i xs ys ≡ (same x y && from (i + 1) xs ys)
    turn x y h k e f =
        ap (λ zs. pass_all (map same zs) (drop i ys)) (drop-cons xs i x h)
        ∙ ap (λ zs. pass_all (map same (get_or xs i x ∷ drop (suc i) xs)) zs) (drop-cons ys i y k)
        ∙ ap (λ z. same z (get_or ys i y) && from (suc i) xs ys) (sym e)
        ∙ ap (λ z. same x z && from (suc i) xs ys) (sym f)
        ∙ ap (λ n. same x y && from n xs ys) (sym (add-one i))

    -- a pair that differs ends the comparison
    pub stops : (x y : X) → i < length xs → i < length ys → x ≡ get_or xs i x → y ≡ get_or ys i y → same x y ≡ false → from i xs ys ≡ false
    stops x y h k e f b = turn x y h k e f ∙ ap (λ c. c && from (i + 1) xs ys) b

    -- after a pair that is the same the others decide
    pub goes_on : (x y : X) → i < length xs → i < length ys → x ≡ get_or xs i x → y ≡ get_or ys i y → same x y ≡ true → from i xs ys ≡ from (i + 1) xs ys
    goes_on x y h k e f b = turn x y h k e f ∙ ap (λ c. c && from (i + 1) xs ys) b

    pub ends : length xs ≡ length ys → length xs ≤ i → from i xs ys ≡ true
    ends e h = ap (λ zs. pass_all (map same zs) (drop i ys)) (drop_all i xs h) ∙ ap (λ zs. pass_all [] zs) (drop_all i ys (omega (arith, e)))
