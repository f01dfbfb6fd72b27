-- What a set of borrowed texts tells, in terms of their bytes.
use Rattle.std.proofs.Common.{◌≡◌, ◌≤◌, ℕ, suc, ◌+◌, Bool, true, false, not, ◌||◌, List, [], ◌∷◌, ◌++◌, map, length, Some, None, Bor, cond, nat_lt, refl, ap, ◌∙◌, arith}
use Rattle.std.specs.List.{list_any, position, position_or_len, prefix_len}
use Rattle.std.specs.Str.{bytes_eq}
use Rattle.std.proofs.lemmas.List.{map-append}
use Rattle.std.proofs.lemmas.Bool.Decides.{nat_tests}
use Rattle.indexmap.specs.IndexSet.{insert_key}
use Rattle.ckc_resolve.specs.Spellings.{Spelling, is_among, with_spelling, place_of, number_of}

abbrev pub bytes_of : List (Bor Spelling) → List Spelling
bytes_of ks = map (λ k. k.now) ks

pub any_bytes : (s : Spelling) (ks : List (Bor Spelling)) → list_any (λ k. bytes_eq s k.now) ks ≡ is_among (bytes_of ks) s
any_bytes s [] = refl
any_bytes s (k ∷ ks) = ap (λ b. bytes_eq s k.now || b) (any_bytes s ks)

pub add_bytes : (ks : List (Bor Spelling)) (k : Bor Spelling) → bytes_of (insert_key (λ x y. bytes_eq x.now y.now) ks k) ≡ with_spelling (bytes_of ks) k.now
add_bytes ks k = by (list_any (λ x. bytes_eq k.now x.now) ks) (is_among (bytes_of ks) k.now) (any_bytes k.now ks)
  where
    by : (a b : Bool) → a ≡ b → bytes_of (cond a ks (ks ++ k ∷ [])) ≡ cond b (bytes_of ks) (bytes_of ks ++ k.now ∷ [])
    by true true e = refl
    by false false e = map-append (λ x. x.now) ks (k ∷ [])
    by true false e = cc
    by false true e = cc

pub before_bytes : (s : Spelling) (ks : List (Bor Spelling)) → position_or_len (λ k. bytes_eq s k.now) ks ≡ number_of (bytes_of ks) s
before_bytes s [] = refl
before_bytes s (k ∷ ks) = ap (λ n. cond (not (bytes_eq s k.now)) (1 + n) 0) (before_bytes s ks)

pub length_bytes : (ks : List (Bor Spelling)) → length (bytes_of ks) ≡ length ks
length_bytes [] = refl
length_bytes (k ∷ ks) = ap (λ n. suc n) (length_bytes ks)

pub place_bytes : (s : Spelling) (ks : List (Bor Spelling)) → position (λ k. bytes_eq s k.now) ks ≡ place_of (bytes_of ks) s
place_bytes s ks = rw (before_bytes s ks, length_bytes ks) refl

number_within : {X : Type 0} (p : X → Bool) (xs : List X) → prefix_len p xs ≤ length xs
number_within p [] = omega arith
number_within p (x ∷ xs) = by (p x) (number_within p xs)
  where
    by : (b : Bool) → prefix_len p xs ≤ length xs → cond b (1 + prefix_len p xs) 0 ≤ length (x ∷ xs)
    by true h = omega arith
    by false h = omega arith

of_some : (before all n : ℕ) → cond (nat_lt before all) (Some before) None ≡ Some n → n ≡ before
of_some before all n h = grind (arith, nat_tests)

of_none : (before all : ℕ) → before ≤ all → cond (nat_lt before all) (Some before) None ≡ None → all ≡ before
of_none before all w h = grind (arith, nat_tests)

pub number_at : (s : Spelling) (ks : List (Bor Spelling)) (n : ℕ) → position (λ k. bytes_eq s k.now) ks ≡ Some n → n ≡ number_of (bytes_of ks) s
number_at s ks n h = of_some _ _ n h ∙ before_bytes s ks

pub number_behind : (s : Spelling) (ks : List (Bor Spelling)) → position (λ k. bytes_eq s k.now) ks ≡ None → length ks ≡ number_of (bytes_of ks) s
number_behind s ks h = of_none _ _ (number_within (λ k. not (bytes_eq s k.now)) ks) h ∙ before_bytes s ks

pub place_same : (ss : List Spelling) (s t : Spelling) (ks : List (Bor Spelling)) → ss ≡ bytes_of ks → t ≡ s → position (λ k. bytes_eq t k.now) ks ≡ place_of ss s
place_same ss s t ks e h = rw (e, h) (place_bytes s ks)
