-- Frames whose locals are put in.
use Rattle.std.proofs.Common.{◌≡◌, ◌∙◌, ℕ, zero, suc, ◌<◌, ◌≤◌, List, [], ◌∷◌, length, refl, ap, sym, subst, arith}
use Rattle.std.proofs.Math.Bridge.{le_prop}
use Rattle.ckc_bounds_points.specs.declared.frame.Local.{Local}
use Rattle.ckc_bounds_points.specs.declared.frame.Frame.{Frame}
use Rattle.ckc_bounds.specs.Declarations.{first_of, few_of, few_of_few, with_locals}

first_is_all : (n : ℕ) (ls : List Local) → length ls ≤ n → first_of n ls ≡ ls
first_is_all zero [] h = refl
first_is_all zero (l ∷ ls) h = absurd (omega arith)
first_is_all (suc n) [] h = refl
first_is_all (suc n) (l ∷ ls) h = ap (λ xs. l ∷ xs) (first_is_all n ls (omega arith))

few_is_all : (ls : List Local) → length ls < 1024 → few_of ls ≡ ls
unfolding few_of
few_is_all ls h = first_is_all 1023 ls (omega arith)

same_few : (a b : ℕ) (f g : a < b) → f ≡ g
same_few a b f g = le_prop {n = suc a} {m = b} f g

-- A frame with few locals is what they make of it.
pub set_is : (frame : Frame) (ls : List Local) (few : length ls < 1024) → record frame { locals = ls; few = few } ≡ with_locals frame ls
set_is frame ls few =
    subst (λ (ms : List Local). (g : length ms < 1024) → record frame { locals = ls; few = few } ≡ record frame { locals = ms; few = g })
    (sym (few_is_all ls few))
    (λ g. ap (λ (k : length ls < 1024). record frame { locals = ls; few = k }) (same_few (length ls) 1024 few g))
    (few_of_few ls)

pub set_same : (frame : Frame) (ls ms : List Local) (few : length ls < 1024) → ls ≡ ms → record frame { locals = ls; few = few } ≡ with_locals frame ms
set_same frame ls ms few e = set_is frame ls few ∙ ap (λ (xs : List Local). with_locals frame xs) e
