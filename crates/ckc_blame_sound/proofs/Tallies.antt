-- How many marks are of a kind, by recursion.
use Rattle.std.proofs.Common.{◌≡◌, refl, arith, ℕ, ◌+◌, Bool, List, [], ◌∷◌, ◌++◌, cond}
use Rattle.std.proofs.lemmas.List.Sums.{sum_by-cons}
use Rattle.ckc_syntax_limits.specs.Marks.{Mark}
use Rattle.ckc_syntax_limits.specs.Small.{how_many}

abbrev pub tally : (Mark → Bool) → List Mark → ℕ
tally p [] = 0
tally p (m ∷ ms) = cond (p m) 1 0 + tally p ms

pub is_tally : (p : Mark → Bool) (ms : List Mark) → how_many p ms ≡ tally p ms
is_tally p [] = refl
is_tally p (m ∷ ms) = omega (arith, sum_by-cons (λ x. cond (p x) 1 0) m ms, is_tally p ms)

pub tally-append : (p : Mark → Bool) (ms ns : List Mark) → tally p (ms ++ ns) ≡ tally p ms + tally p ns
tally-append p [] ns = omega arith
tally-append p (m ∷ ms) ns = omega (arith, tally-append p ms ns)
