-- A number of the command line is read as one.
use Rattle.std.proofs.Common.{◌≡◌, ℕ, ◌^◌, ◌<◌, ◌≤◌, ◌==◌, Bool, true, false, cond, List, [], ◌∷◌, length, drop, refl, sym, ap, subst, arith}
use Rattle.std.specs.Char.{digit_value}
use Rattle.std.specs.Str.Parse.{AllDigits, IsNumeral, digits_value, without_leading_plus}
use Rattle.std.proofs.lemmas.Int.Digits.{digits_value-lt}
use Rattle.std.proofs.lemmas.Bool.Decides.{nat_tests}
use Rattle.std.proofs.Math.Nat.{pow-le-pow_right}
use Rattle.ckc_cli_commands.specs.Words.{IsNumber}

is_plus : (c : ℕ) → (c == 43) ≡ true → c ≡ 43
is_plus c e = grind (arith, nat_tests)

plus_is_none : digit_value 43 < 10 → ⊥
plus_is_none h = omega (arith, h)

no_plus : (word : List ℕ) → AllDigits 10 word → without_leading_plus word ≡ word
no_plus [] h = refl
no_plus (c ∷ cs) h = by_test (c == 43) refl
  where
    by_test : (b : Bool) → (c == 43) ≡ b → without_leading_plus (c ∷ cs) ≡ c ∷ cs
    by_test true e = absurd (plus_is_none (subst (λ c. digit_value c < 10) (is_plus c e) h.0))
    by_test false e = ap (λ b. drop (cond b 1 0) (c ∷ cs)) e

pub not_number : (most : ℕ) (word : List ℕ) (n : ℕ) → most ≤ 18 → IsNumber most word n → (IsNumeral 10 (without_leading_plus word) × (digits_value 10 (without_leading_plus word) < 2 ^ 64) → ⊥) → ⊥
not_number most word n le h none =
    let same = no_plus word h.digits.1 in
    let small : digits_value 10 word < 10 ^ length word = digits_value-lt 10 word h.digits.1 in
    let few : length word ≤ 18 = omega (arith, h.few, le) in
    let bound : 10 ^ length word ≤ 10 ^ 18 = pow-le-pow_right (omega arith) few in
    none (subst (λ (w : List ℕ). IsNumeral 10 w × (digits_value 10 w < 2 ^ 64)) (sym same) (h.digits, omega (arith, small, bound)))
