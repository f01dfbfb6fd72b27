-- Rows that are joined mark by mark.
use Rattle.std.proofs.Common.{◌≡◌, ℕ, zero, suc, ◌+◌, ◌≤◌, ◌<◌, Bool, true, false, ◌||◌, List, [], ◌∷◌, length, get_or, set, take, refl, ap, ◌∙◌, arith}
use Rattle.ckc_flow.specs.code.Rows.{joined}

mark_next : (xs ys : List Bool) (i : ℕ) → i < length xs → i < length ys → get_or xs i false ≡ true → joined (take (suc i) xs) ys ≡ set (joined (take i xs) ys) i true
mark_next [] ys i h k e = absurd (omega arith)
mark_next (x ∷ xs) [] i h k e = absurd (omega arith)
mark_next (true ∷ xs) (y ∷ ys) zero h k e = refl
mark_next (false ∷ xs) (y ∷ ys) zero h k e = absurd cc
mark_next (x ∷ xs) (y ∷ ys) (suc i) h k e = ap (λ l. (x || y) ∷ l) (mark_next xs ys i (omega arith) (omega arith) e)

none_next : (xs ys : List Bool) (i : ℕ) → i < length ys → get_or xs i false ≡ false → joined (take (suc i) xs) ys ≡ joined (take i xs) ys
none_next [] ys zero h e = refl
none_next [] ys (suc i) h e = refl
none_next (x ∷ xs) [] i h e = absurd (omega arith)
none_next (true ∷ xs) (y ∷ ys) zero h e = absurd cc
none_next (false ∷ xs) (y ∷ ys) zero h e = refl
none_next (x ∷ xs) (y ∷ ys) (suc i) h e = ap (λ l. (x || y) ∷ l) (none_next xs ys i (omega arith) e)

-- one more mark of the other row
pub joined_mark : (xs ys : List Bool) (i : ℕ) → i < length xs → i < length ys → get_or xs i false ≡ true → joined (take (i + 1) xs) ys ≡ set (joined (take i xs) ys) i true
joined_mark xs ys i h k e = let n : i + 1 ≡ suc i = omega arith in ap (λ m. joined (take m xs) ys) n ∙ mark_next xs ys i h k e

-- one that is not set changes nothing, and there is none after the end of the other row
pub joined_none : (xs ys : List Bool) (i : ℕ) → i < length ys → get_or xs i false ≡ false → joined (take (i + 1) xs) ys ≡ joined (take i xs) ys
joined_none xs ys i h e = let n : i + 1 ≡ suc i = omega arith in ap (λ m. joined (take m xs) ys) n ∙ none_next xs ys i h e

pub joined_all : (xs ys : List Bool) (i : ℕ) → length ys ≤ i → joined (take i xs) ys ≡ joined xs ys
joined_all [] ys zero h = refl
joined_all [] ys (suc i) h = refl
joined_all (x ∷ xs) [] zero h = refl
joined_all (x ∷ xs) [] (suc i) h = refl
joined_all (x ∷ xs) (y ∷ ys) zero h = absurd (omega arith)
joined_all (x ∷ xs) (y ∷ ys) (suc i) h = ap (λ l. (x || y) ∷ l) (joined_all xs ys i (omega arith))
