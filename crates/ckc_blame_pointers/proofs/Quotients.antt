-- What division gives of a word that stands for an integer, by a number below 2 ^ 31.
use Rattle.std.proofs.Common.{◌≡◌, sym, ap, subst, ◌∙◌, ℕ, true, false, ℤ, arith}
use Rattle.std.specs.Prelude.{pos, ◌<◌, ◌≤◌, ◌^◌, ◌/◌, ◌-◌, ◌==◌, ◌<ℤ◌, ◌&&◌, not, if◌then◌else◌, int_div, FitsSigned}
use Rattle.std.specs.Int.{w32}
use Rattle.std.proofs.lemmas.Int.{ints, of_z-to_z, quot_is, quot_fits}
use Rattle.std.proofs.lemmas.Bool.Decides.{nat_tests}
use Rattle.std.proofs.Math.Nat.{div-le_self}
use Rattle.ckc_base.specs.Words.{signed, word_of}
use Rattle.ckc_types.specs.declared.types.CType.{CType, CType-F, out-CType}
use Rattle.ckc_typed.specs.Types.{is_integer, is_integer_form, is_unsigned_form, is_char_form}
use Rattle.ckc_source.specs.declared.expr.Operation.TheVariants.{Div}
use Rattle.ckc_source.specs.Words.{exact, computed}
use Rattle.ckc_build_values.specs.Kinds.{integer_in, integer_of, is_signed}
use Rattle.ckc_blame_sound.specs.Values.{IsWordOf}

signed_fits : (n : ℕ) → n < 2 ^ 32 → FitsSigned w32 (signed n)
signed_fits n h = grind (arith, ints)

signed_small : (n : ℕ) → n < 2 ^ 31 → signed n ≡ pos n
signed_small n h = grind (arith, ints)

positive : (d : ℕ) → 0 < d → pos 0 <ℤ pos d
positive d h = omega (arith, ints)

word_small : (n : ℕ) → n < 2 ^ 32 → word_of (pos n) ≡ n
word_small n h = grind (arith, ints)

pub not_zero : (d : ℕ) → 0 < d → (d == 0) ≡ false
not_zero d h = grind (arith, nat_tests)

module _ (d : ℕ) (some : 0 < d) (small : d < 2 ^ 31) where
  signed_quotient : (a : ℕ) → a < 2 ^ 32 → signed (word_of (int_div (signed a) (signed d))) ≡ int_div (signed a) (pos d)
  signed_quotient a h =
      subst (λ (n : ℕ). signed (word_of (int_div (signed n) (signed d))) ≡ int_div (signed a) (pos d)) (of_z-to_z w32 a h)
      (subst (λ (x : ℤ). signed (word_of (int_div (signed (word_of (signed a))) x)) ≡ int_div (signed a) (pos d)) (ap signed (of_z-to_z w32 d (omega arith)))
      (subst (λ (x : ℤ). signed (word_of (int_div (signed (word_of (signed a))) (signed (word_of x)))) ≡ int_div (signed a) (pos d)) (sym (signed_small d small))
      (quot_is w32 (signed a) (pos d) (signed_fits a h) (subst (FitsSigned w32) (signed_small d small) (signed_fits d (omega arith))) (quot_fits w32 (signed a) (pos d) (signed_fits a h) (positive d some)))))

  byte_quotient : (a : ℕ) → a < 256 → pos (word_of (int_div (signed a) (signed d))) ≡ int_div (pos a) (pos d)
  byte_quotient a h =
      ap (λ x. pos (word_of (int_div x (signed d)))) (signed_small a (omega arith)) ∙ ap (λ x. pos (word_of (int_div (pos a) x))) (signed_small d small)
      ∙ ap pos (word_small (a / d) (let less : a / d ≤ a = div-le_self a d in omega (arith, less, h)))

  quotient_in : (f : CType-F CType) (a : ℕ) → is_integer_form f ≡ true → a < (if is_char_form f then 256 else 2 ^ 32)
      → exact (integer_in f) (computed Div (is_integer_form f && not (is_unsigned_form f)) a d) ≡ int_div (exact (integer_in f) a) (pos d)
  quotient_in CType-F.Int a i h = ap (λ b. signed (if b then 2 ^ 32 - 1 else word_of (int_div (signed a) (signed d)))) (not_zero d some) ∙ signed_quotient a h
  quotient_in CType-F.Unsigned a i h = ap (λ b. pos (if b then 2 ^ 32 - 1 else a / d)) (not_zero d some)
  quotient_in CType-F.Char a i h = ap (λ b. pos (if b then 2 ^ 32 - 1 else word_of (int_div (signed a) (signed d)))) (not_zero d some) ∙ byte_quotient a h
  quotient_in CType-F.Void a i h = absurd (cc)
  quotient_in (CType-F.Struct tag) a i h = absurd (cc)
  quotient_in (CType-F.Pointer k t) a i h = absurd (cc)

  -- The quotient of a word of an integer type stands for the quotient of what the word stands for.
  pub quotient_is : (t : CType) (a : ℕ) → is_integer t ≡ true → IsWordOf t a → exact (integer_of t) (computed Div (is_signed t) a d) ≡ int_div (exact (integer_of t) a) (pos d)
  quotient_is t a i h = quotient_in (out-CType t) a i h
