-- Signed words that are not negative, and one more below a limit.
use Rattle.std.proofs.Common.{◌≡◌, ℕ, suc, ◌+◌, ◌-◌, ◌%◌, ◌^◌, ◌==◌, nat_lt, Bool, true, false, Option, None, Some, pos, negsuc, int_lt, refl, sym, ap, subst, arith}
use Rattle.std.proofs.lemmas.Bool.Decides.{nat_tests}
use Rattle.std.proofs.lemmas.Int.{ints}
use Rattle.std.proofs.lemmas.Option.{none-some}
use Rattle.ckc_base.specs.Words.{flag, signed}
use Rattle.ckc_tac.specs.declared.code.Comparison.TheVariants.{LtS, LtU}
use Rattle.ckc_tac.specs.Operations.{compared}

-- a word below 2 ^ 31 is itself as a signed word, and every other one is negative
signed_small : (n : ℕ) → nat_lt n (2 ^ 31) ≡ true → signed n ≡ pos n
signed_small n e = grind (arith, nat_tests, ints)

signed_large : (n : ℕ) → nat_lt n (2 ^ 31) ≡ false → signed n ≡ negsuc (2 ^ 32 - suc n)
signed_large n e = grind (arith, nat_tests, ints)

-- a word that is not below 0
not_below_zero : (m : ℕ) (t : Bool) → nat_lt m (2 ^ 31) ≡ t → (flag (int_lt (signed m) (signed 0)) == 0) ≡ true → nat_lt m (2 ^ 31) ≡ true
not_below_zero m true is e = is
not_below_zero m false is e =
    absurd (let f : (flag (int_lt (negsuc (2 ^ 32 - suc m)) (signed 0)) == 0) ≡ true = subst (λ z. (flag (int_lt z (signed 0)) == 0) ≡ true) (signed_large m is) e in cc)

-- a word that is below another one and not negative
below_too : (m k : ℕ) (t : Bool) → nat_lt m (2 ^ 31) ≡ true → nat_lt k (2 ^ 31) ≡ t → (flag (int_lt (signed m) (signed k)) == 0) ≡ false → (nat_lt k (2 ^ 31) ≡ true) × (nat_lt m k ≡ true)
below_too m k true small is e =
    let f : (flag (int_lt (pos m) (pos k)) == 0) ≡ false =
    subst (λ z. (flag (int_lt (pos m) z) == 0) ≡ false) (signed_small k is) (subst (λ z. (flag (int_lt z (signed k)) == 0) ≡ false) (signed_small m small) e) in
    (is, flag_true (nat_lt m k) f)
  where
    flag_true : (t : Bool) → (flag t == 0) ≡ false → t ≡ true
    flag_true true e = refl
    flag_true false e = absurd cc
below_too m k false small is e =
    absurd (let f : (flag (int_lt (pos m) (negsuc (2 ^ 32 - suc k))) == 0) ≡ false =
    subst (λ z. (flag (int_lt (pos m) z) == 0) ≡ false) (signed_large k is) (subst (λ z. (flag (int_lt z (signed k)) == 0) ≡ false) (signed_small m small) e) in cc)

same_flag : (a v : ℕ) (t : Bool) → Some a ≡ Some v → (v == 0) ≡ t → (a == 0) ≡ t
same_flag a v t e z = subst (λ w. (w == 0) ≡ t) (let g : v ≡ a = cc in g) z

-- ---- values that registers may lack

pub small_not_negative : (v : ℕ) → nat_lt v (2 ^ 31) ≡ true → (flag (int_lt (signed v) (signed 0)) == 0) ≡ true
small_not_negative v small =
    subst (λ z. (flag (int_lt z (signed 0)) == 0) ≡ true) (sym (signed_small v small)) (ap (λ t. flag t == 0) (never_below v))
  where
    never_below : (n : ℕ) → nat_lt n 0 ≡ false
    never_below n = grind (arith, nat_tests)

both_below : (m k v w : ℕ) → compared LtS (Some m) (Some 0) ≡ Some v → (v == 0) ≡ true → compared LtS (Some m) (Some k) ≡ Some w → (w == 0) ≡ false
    → (nat_lt k (2 ^ 31) ≡ true) × (nat_lt m k ≡ true)
both_below m k v w e z f y =
    let small = not_below_zero m (nat_lt m (2 ^ 31)) refl (same_flag (flag (int_lt (signed m) (signed 0))) v true e z) in
    below_too m k (nat_lt k (2 ^ 31)) small refl (same_flag (flag (int_lt (signed m) (signed k))) w false f y)

-- one more than a word that is not negative, below a limit
pub counted_small : (m : ℕ) (limit : Option ℕ) (v w : ℕ) → compared LtS (Some m) (Some 0) ≡ Some v → (v == 0) ≡ true → compared LtS (Some m) limit ≡ Some w → (w == 0) ≡ false
    → nat_lt ((m + 1) % 2 ^ 32) (2 ^ 31) ≡ true
counted_small m (Some k) v w e z f y =
    let (small, below) = both_below m k v w e z f y in
    one_more_small m k small below
  where
    one_more_small : (m k : ℕ) → nat_lt k (2 ^ 31) ≡ true → nat_lt m k ≡ true → nat_lt ((m + 1) % 2 ^ 32) (2 ^ 31) ≡ true
    one_more_small m k small below = grind (arith, nat_tests)
counted_small m None v w e z f y = absurd (none-some w f)

pub within_below : (o limit : Option ℕ) (v w u : ℕ) → compared LtS o (Some 0) ≡ Some v → (v == 0) ≡ true → compared LtS o limit ≡ Some w → (w == 0) ≡ false
    → compared LtU o limit ≡ Some u → (u == 0) ≡ false
within_below (Some m) (Some k) v w u e z f y g =
    let h = both_below m k v w e z f y in
    same_flag u (flag (nat_lt m k)) false (sym g) (ap (λ t. flag t == 0) h.1)
within_below (Some m) None v w u e z f y g = absurd (none-some u g)
within_below None limit v w u e z f y g = absurd (none-some u g)
