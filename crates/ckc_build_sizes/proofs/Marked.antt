-- How many nodes are among marks, by recursion.
use Rattle.std.proofs.Common.{◌≡◌, ℕ, ◌+◌, List, [], ◌∷◌, ◌++◌, refl, cond, arith}
use Rattle.std.proofs.lemmas.List.Sums.{sum_by-cons}
use Rattle.ckc_syntax_limits.specs.Marks.{Mark, node, local, text, function, static, is_node}
use Rattle.ckc_syntax_limits.specs.Small.{how_many}

abbrev pub marked : List Mark → ℕ
marked [] = 0
marked (node ∷ ms) = 1 + marked ms
marked (local ∷ ms) = marked ms
marked (text ∷ ms) = marked ms
marked (function ∷ ms) = marked ms
marked (static ∷ ms) = marked ms

pub is_marked : (ms : List Mark) → how_many is_node ms ≡ marked ms
is_marked [] = refl
is_marked (node ∷ ms) = omega (arith, sum_by-cons (λ x. cond (is_node x) 1 0) node ms, is_marked ms)
is_marked (local ∷ ms) = omega (arith, sum_by-cons (λ x. cond (is_node x) 1 0) local ms, is_marked ms)
is_marked (text ∷ ms) = omega (arith, sum_by-cons (λ x. cond (is_node x) 1 0) text ms, is_marked ms)
is_marked (function ∷ ms) = omega (arith, sum_by-cons (λ x. cond (is_node x) 1 0) function ms, is_marked ms)
is_marked (static ∷ ms) = omega (arith, sum_by-cons (λ x. cond (is_node x) 1 0) static ms, is_marked ms)

pub marked-append : (ms ns : List Mark) → marked (ms ++ ns) ≡ marked ms + marked ns
marked-append [] ns = omega arith
marked-append (node ∷ ms) ns = omega (arith, marked-append ms ns)
marked-append (local ∷ ms) ns = omega (arith, marked-append ms ns)
marked-append (text ∷ ms) ns = omega (arith, marked-append ms ns)
marked-append (function ∷ ms) ns = omega (arith, marked-append ms ns)
marked-append (static ∷ ms) ns = omega (arith, marked-append ms ns)
