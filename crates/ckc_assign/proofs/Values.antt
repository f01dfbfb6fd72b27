-- Values at the homes of registers: after a write, at the entry of a call, and over a call.
use Rattle.std.proofs.Common.{◌≡◌, ◌≢◌, ℕ, zero, suc, ◌+◌, ◌<◌, ◌==◌, nat_lt, if◌then◌else◌, Bool, true, false, List, [], ◌∷◌, length, get_or, Option, None, Some, refl, sym, ap, ◌∙◌, arith}
use Rattle.std.specs.List.{slice_get}
use Rattle.std.proofs.lemmas.Bool.{or_left, or_right}
use Rattle.std.proofs.lemmas.Bool.Decides.{nat_tests}
use Rattle.ckc_base.specs.Activations.{Values, with_written}
use Rattle.ckc_frame.specs.declared.code.Place.{Place}
use Rattle.ckc_frame.specs.Places.{home, number_of, number_of_home, entry_places, places_kept, is_kept_home, register_count}

pub written_same : (values : Values) (t v q : ℕ) → q ≡ t → with_written values t v q ≡ Some v
unfolding with_written
written_same values t v q e = grind (arith, nat_tests)

pub written_other : (values : Values) (t v q : ℕ) → q ≢ t → with_written values t v q ≡ values q
unfolding with_written
written_other values t v q e = grind (arith, nat_tests)

-- the parameters are at their homes if no other one has the same home
pub entry_at : (homes : List Place) (values : List ℕ) (k r i v : ℕ) → k + i ≡ r → slice_get values i ≡ Some v
    → ((q : ℕ) → q < k + length values → q ≢ r → home homes q ≢ home homes r) → entry_places homes k values (home homes r) ≡ Some v
unfolding entry_places
entry_at homes [] k r i v e f h = absurd cc
entry_at homes (x ∷ xs) k r zero v e f h =
    let same : home homes r ≡ home homes k = ap (home homes) (let g : r ≡ k = omega arith in g) in
    written_same (entry_places homes (k + 1) xs) (home homes k) x (home homes r) same ∙ f
entry_at homes (x ∷ xs) k r (suc i) v e f h =
    let apart : home homes r ≢ home homes k = λ g. h k (omega arith) (λ m. absurd (omega arith)) (sym g) in
    written_other (entry_places homes (k + 1) xs) (home homes k) x (home homes r) apart
    ∙ entry_at homes xs (k + 1) r i v (omega arith) f (λ q m n. h q (omega arith) n)

same_test : (a b : ℕ) → a ≡ b → (a == b) ≡ true
same_test a b e = grind (arith, nat_tests)

-- a register with a mark keeps its home
kept_home : (homes : List Place) (marks : List Bool) (r : ℕ) (place : Place) → slice_get homes r ≡ Some place → get_or marks r false ≡ true → is_kept_home (number_of place) homes marks ≡ true
kept_home [] marks r place e m = absurd cc
kept_home (p ∷ ps) [] r place e m = absurd cc
kept_home (p ∷ ps) (true ∷ marks) zero place e m =
    or_left (number_of p == number_of place) (is_kept_home (number_of place) ps marks) (let f : p ≡ place = cc in same_test (number_of p) (number_of place) (ap number_of f))
kept_home (p ∷ ps) (false ∷ marks) zero place e m = absurd cc
kept_home (p ∷ ps) (true ∷ marks) (suc r) place e m = or_right (number_of p == number_of place) (is_kept_home (number_of place) ps marks) (kept_home ps marks r place e m)
kept_home (p ∷ ps) (false ∷ marks) (suc r) place e m = kept_home ps marks r place e m

kept_if : (b c : Bool) (o : Option ℕ) → c ≡ true → (if b then (if c then o else None) else o) ≡ o
kept_if true c o e = ap (λ d. if d then o else None) e
kept_if false c o e = refl

pub kept_at : (homes : List Place) (marks : List Bool) (places : Values) (r : ℕ) (place : Place) → slice_get homes r ≡ Some place → get_or marks r false ≡ true
    → places_kept homes marks places (home homes r) ≡ places (home homes r)
unfolding places_kept home
kept_at homes marks places r place e m =
    kept_if (nat_lt (number_of_home (slice_get homes r)) register_count) (is_kept_home (number_of_home (slice_get homes r)) homes marks) (places (number_of_home (slice_get homes r)))
    (ap (λ o. is_kept_home (number_of_home o) homes marks) e ∙ kept_home homes marks r place e m)
