-- A list from which the last element is taken holds nothing deeper than before.
use Rattle.std.proofs.Common.{◌≡◌, ℕ, ◌≤◌, List, [], ◌∷◌, ◌++◌, subst, arith}
use denote.Param.Weighed.{most, most-append}

pub shorter : {X : Type 0} (μ : X → ℕ) (xs ys : List X) (x : X) (n : ℕ) → ys ≡ xs ++ x ∷ [] → most μ ys ≤ n → most μ xs ≤ n
shorter μ xs ys x n e h =
    let k : most μ (xs ++ x ∷ []) ≤ n = subst (λ zs. most μ zs ≤ n) e h in
    let m = most-append μ xs (x ∷ []) in
    omega (arith, k, m)
