-- Lists that are gone through: two of them one beside the other, and one in which each element has a number.
use Rattle.std.specs.Prelude.{ℕ, ◌+◌, List, [], ◌∷◌, ◌++◌, Option, None, Some}

-- what is made of each element of the second list, with the one at its place in the first, if there is one
abbrev pub beside : {A B C : Type 0} → (Option A → B → C) → List A → List B → List C
beside f xs [] = []
beside f [] (y ∷ ys) = f None y ∷ beside f [] ys
beside f (x ∷ xs) (y ∷ ys) = f (Some x) y ∷ beside f xs ys

-- What is made of each element and its number: the first has the number k, and each later one as much more as the one
-- before it counts.
abbrev pub numbered : {X C : Type 0} → (ℕ → X → List C) → (X → ℕ) → ℕ → List X → List C
numbered make counts k [] = []
numbered make counts k (x ∷ xs) = make k x ++ numbered make counts (k + counts x) xs
