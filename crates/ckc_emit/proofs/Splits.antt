-- A word is its upper 20 bits and the signed rest.
use Rattle.std.proofs.Common.{◌≡◌, ℕ, ◌+◌, ◌-◌, ◌*◌, ◌%◌, ◌^◌, ◌<◌, ◌==◌, if◌then◌else◌, Bool, true, false, refl, ◌∙◌, ap, arith}
use Rattle.std.specs.Prelude.{pos}
use Rattle.std.proofs.lemmas.Int.{ints}
use Rattle.std.proofs.lemmas.Bool.Decides.{nat_tests}
use Rattle.ckc_base.specs.Words.{word_of}
use Rattle.ckc_rv.specs.Effects.{moved}
use Rattle.ckc_tac.specs.Operations.{at_offset}
use Rattle.ckc_tac.specs.WellFormed.{IsOffset}
use Rattle.ckc_emit.specs.code.Lines.{upper_of, lower_of, negated}
use Rattle.ckc_emit.proofs.Tests.{eq_of}

pub split_word : (v : ℕ) → v < 2 ^ 32 → (upper_of v * 2 ^ 12 + word_of (lower_of v)) % 2 ^ 32 ≡ v
unfolding upper_of lower_of
split_word v h = grind (arith, ints, nat_tests)

pub small_word : (v : ℕ) → v < 2 ^ 32 → upper_of v ≡ 0 → (0 + word_of (lower_of v)) % 2 ^ 32 ≡ v
unfolding upper_of lower_of
small_word v h e = grind (arith, ints, nat_tests)

pub round_word : (v : ℕ) → v < 2 ^ 32 → lower_of v ≡ pos 0 → upper_of v * 2 ^ 12 ≡ v
unfolding upper_of lower_of
round_word v h e = grind (arith, ints, nat_tests)

pub upper_small : (v : ℕ) → upper_of v < 2 ^ 20
unfolding upper_of
upper_small v = omega arith

-- an offset of a frame that is added in two parts
pub far_word : (frame offset : ℕ) → frame < 2 ^ 31 → offset < 2 ^ 31 → moved ((upper_of offset * 2 ^ 12 + frame) % 2 ^ 32) (lower_of offset) ≡ frame + offset
unfolding upper_of lower_of
far_word frame offset h k = grind (arith, ints, nat_tests)

pub near_word : (frame offset : ℕ) → frame < 2 ^ 31 → offset < 2 ^ 31 → moved frame (pos offset) ≡ frame + offset
near_word frame offset h k = grind (arith, ints, nat_tests)

pub moved_none : (a : ℕ) → a < 2 ^ 32 → moved a (pos 0) ≡ a
moved_none a h = omega arith

near_rest : (n : ℕ) → (n + 2048) % 2 ^ 32 < 4096 → word_of (lower_of n) ≡ n % 2 ^ 32
unfolding lower_of
near_rest n h = grind (arith, ints, nat_tests)

near_other : (p n : ℕ) → (n + 2048) % 2 ^ 32 < 4096 → (p + word_of (lower_of n)) % 2 ^ 32 ≡ (p + n) % 2 ^ 32
near_other p n h =
    let e : (p + n % 2 ^ 32) % 2 ^ 32 ≡ (p + n) % 2 ^ 32 = omega arith in
    ap (λ w. (p + w) % 2 ^ 32) (near_rest n h) ∙ e

near_by : (b : Bool) (p n : ℕ) → (n == 0) ≡ b → p < 2 ^ 32 → (p + n) % 2 ^ 32 ≡ (if b then p else (p + n) % 2 ^ 32)
near_by true p n e fits = let z : n ≡ 0 = eq_of n 0 e in omega (arith, z)
near_by false p n e fits = refl

-- an address with an offset
pub moved_near : (p n : ℕ) → p < 2 ^ 32 → IsOffset n → moved p (lower_of n) ≡ at_offset p n
moved_near p n fits near = near_other p n near ∙ near_by (n == 0) p n refl fits

-- ---- numbers as immediates

pub near_is : (v : ℕ) → v < 2 ^ 32 → upper_of v ≡ 0 → word_of (lower_of v) ≡ v
unfolding upper_of lower_of
near_is v h e = grind (arith, ints, nat_tests)

pub negated_small : (n : ℕ) → negated n < 2 ^ 32
negated_small n = omega arith

pub negated_is : (x n : ℕ) → n < 2 ^ 32 → (x + negated n) % 2 ^ 32 ≡ (x + (2 ^ 32 - n)) % 2 ^ 32
negated_is x n h = omega arith

small_count : (k : ℕ) → k < 32 → upper_of k ≡ 0
unfolding upper_of
small_count k h = omega arith

twice : (n : ℕ) → n % 32 % 32 ≡ n % 32
twice n = omega arith

below : (n : ℕ) → n % 32 < 32
below n = omega arith

-- the count of a shift
pub count_is : (n : ℕ) → word_of (lower_of (n % 32)) % 32 ≡ n % 32
count_is n = ap (λ k. k % 32) (near_is (n % 32) (omega arith) (small_count (n % 32) (below n))) ∙ twice n
