-- Digits, one after another, and the kinds of items.
use Rattle.std.proofs.Common.{◌≡◌, ℕ, suc, ◌+◌, ◌*◌, ◌^◌, ◌<◌, ◌≤◌, min, Bool, true, false, cond, ◌&&◌, nat_lt, List, length, take, drop, get_or, Some, None, refl, sym, ap, ◌∙◌, arith, ⊎_elim, drop-cons, add-one}
use Rattle.std.specs.List.{list_all, find}
use Rattle.std.specs.Char.{is_digit, digit_value}
use Rattle.std.specs.Str.Parse.{digits_value}
use Rattle.std.proofs.Math.Nat.{mul-le-mul_left}
use Rattle.std.proofs.lemmas.Bool.{lt-ltb, cases_lt}
use Rattle.std.proofs.lemmas.Bool.Decides.{nat_tests}
use Rattle.std.proofs.lemmas.List.{take_all, drop_all}
use Rattle.std.proofs.lemmas.List.Folds.{list_all_more, list_all_at}
use Rattle.std.proofs.lemmas.Int.Digits.{digits_value_more}
use Rattle.ckc_asm.specs.code.Numerals.{numeral_of, is_numeral}
use Rattle.ckc_asm.specs.Spelled.{beyond}

-- a product of a capped number is capped alike
pub capped_more : (most v r d : ℕ) → 1 ≤ r → min (min v most * r + d) most ≡ min (v * r + d) most
capped_more most v r d h = ⊎_elim
    (λ (l : v < most). let e : min v most ≡ v = omega arith in rw e refl)
    (λ (g : most ≤ v).
    let e : min v most ≡ most = omega arith in
    let a : most * 1 ≤ most * r = mul-le-mul_left most h in
    let b : v * 1 ≤ v * r = mul-le-mul_left v h in
    rw e (omega (arith, a, b)))
    (cases_lt v most)

pub capped_small : (v r d most : ℕ) → v ≤ most → r ≤ 16 → d ≤ 36 → v * r + d ≤ most * 16 + 36
capped_small v r d most h k m =
    let a : v * r ≤ v * 16 = mul-le-mul_left v k in
    omega (arith, a)

pub digits_more : (radix : ℕ) (w : List ℕ) (k : ℕ) → k < length w → digit_value (get_or w k 0) < radix
    → list_all (λ b. is_digit b radix) (take k w) ≡ true → list_all (λ b. is_digit b radix) (take (k + 1) w) ≡ true
digits_more radix w k h d e =
    let t : is_digit (get_or w k 0) radix ≡ true = lt-ltb (digit_value (get_or w k 0)) radix d in
    list_all_more (λ b. is_digit b radix) w k 0 h ∙ (rw (e, t) refl)

pub value_more : (radix : ℕ) (w : List ℕ) (k v : ℕ) → 1 ≤ radix → k < length w → v ≡ min (digits_value radix (take k w)) (2 ^ 40)
    → min (v * radix + digit_value (get_or w k 0)) (2 ^ 40) ≡ min (digits_value radix (take (k + 1) w)) (2 ^ 40)
value_more radix w k v r h e =
    ap (λ n. min (n * radix + digit_value (get_or w k 0)) (2 ^ 40)) e
    ∙ capped_more (2 ^ 40) (digits_value radix (take k w)) radix (digit_value (get_or w k 0)) r
    ∙ ap (λ n. min n (2 ^ 40)) (sym (digits_value_more radix w k h))

pub no_numeral : (radix : ℕ) (w : List ℕ) (k : ℕ) → k < length w → radix ≤ digit_value (get_or w k 0) → numeral_of radix w ≡ None
no_numeral radix w k h d =
    let f : is_digit (get_or w k 0) radix ≡ false = not_below (digit_value (get_or w k 0)) radix d in
    let a : list_all (λ b. is_digit b radix) w ≡ false = list_all_at (λ b. is_digit b radix) w k 0 h f in
    let n : is_numeral radix w ≡ false = ap (λ b. nat_lt 0 (length w) && b) a ∙ and_false (nat_lt 0 (length w)) in
    ap (λ b. cond b (Some (min (digits_value radix w) beyond)) None) n
  where
    and_false : (b : Bool) → (b && false) ≡ false
    and_false true = refl
    and_false false = refl

    not_below : (a b : ℕ) → b ≤ a → nat_lt a b ≡ false
    not_below a b h = grind (arith, nat_tests)

pub whole_numeral : (radix : ℕ) (w : List ℕ) (k v : ℕ) → 0 < length w → length w ≤ k → v ≡ min (digits_value radix (take k w)) (2 ^ 40)
    → list_all (λ b. is_digit b radix) (take k w) ≡ true → Some v ≡ numeral_of radix w
whole_numeral radix w k v some h e d =
    let t : nat_lt 0 (length w) ≡ true = lt-ltb 0 (length w) some in
    let a : list_all (λ b. is_digit b radix) w ≡ true = sym (ap (list_all (λ b. is_digit b radix)) (take_all k w h)) ∙ d in
    let n : is_numeral radix w ≡ true = ap (λ b. b && list_all (λ c. is_digit c radix) w) t ∙ a in
    ap Some (e ∙ ap (λ l. min (digits_value radix l) (2 ^ 40)) (take_all k w h))
    ∙ sym (ap (λ b. cond b (Some (min (digits_value radix w) beyond)) None) n)

-- ---- the first that passes a test, from a place on

pub find_here : {X : Type 0} (p : X → Bool) (xs : List X) (k : ℕ) (d : X) → k < length xs → p (get_or xs k d) ≡ true → find p (drop k xs) ≡ Some (get_or xs k d)
find_here p xs k d h t = ap (find p) (drop-cons xs k d h) ∙ ap (λ b. cond b (Some (get_or xs k d)) (find p (drop (suc k) xs))) t

pub find_later : {X : Type 0} (p : X → Bool) (xs : List X) (k : ℕ) (d : X) → k < length xs → p (get_or xs k d) ≡ false → find p (drop k xs) ≡ find p (drop (k + 1) xs)
find_later p xs k d h f =
    ap (find p) (drop-cons xs k d h) ∙ ap (λ b. cond b (Some (get_or xs k d)) (find p (drop (suc k) xs))) f ∙ ap (λ n. find p (drop n xs)) (sym (add-one k))

pub find_none : {X : Type 0} (p : X → Bool) (xs : List X) (k : ℕ) → length xs ≤ k → find p (drop k xs) ≡ None
find_none p xs k h = ap (find p) (drop_all k xs h)
