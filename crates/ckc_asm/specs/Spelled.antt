-- How names, registers, numbers, bytes and kinds of items are spelled.
use Rattle.std.specs.Prelude.{◌≡◌, ℕ, ◌^◌, min, Bool, ◌&&◌, ◌||◌, ◌==◌, nat_lt, nat_le, ℤ, pos, neg_ℤ, List, ◌∷◌, length, slice_index}
use Rattle.std.specs.Char.{is_digit}
use Rattle.std.specs.List.{list_all}
use Rattle.std.specs.Str.Parse.{IsNumeral, digits_value}
use Rattle.ckc_asm.specs.declared.items.Kind.{Kind}
use Rattle.ckc_asm.specs.Items.{kind_name}

-- a number that is out of every range of assembly
abbrev pub beyond : ℕ
beyond = 2 ^ 40

-- a letter or `_`
abbrev pub is_letter : ℕ → Bool
is_letter b = (nat_le 97 b && nat_le b 122) || (nat_le 65 b && nat_le b 90) || b == 95

-- letters, digits and `_`, not begun by a digit
abbrev pub is_name : List ℕ → Bool
is_name w = nat_lt 0 (length w) && is_letter (slice_index w 0) && list_all (λ b. is_letter b || is_digit b 10) w

-- one digit or more, and what they stand for; from 2 ^ 40 on, that
abbrev pub Spells : ℕ → List ℕ → ℕ → Type 0
Spells radix digits n = IsNumeral radix digits × (n ≡ min (digits_value radix digits) beyond)

-- decimal digits, `-` and decimal digits, or `0x` and hexadecimal digits
pub data IsNumber (w : List ℕ) (z : ℤ) : Type 0 where
  plain : (n : ℕ) → Spells 10 w n → z ≡ pos n → IsNumber w z
  negative : (digits : List ℕ) (n : ℕ) → w ≡ 45 ∷ digits → Spells 10 digits n → z ≡ neg_ℤ (pos n) → IsNumber w z
  hexadecimal : (digits : List ℕ) (n : ℕ) → w ≡ 48 ∷ 120 ∷ digits → Spells 16 digits n → z ≡ pos n → IsNumber w z

-- two hexadecimal digits
abbrev pub IsByte : List ℕ → ℕ → Type 0
IsByte w b = (length w ≡ 2) × IsNumeral 16 w × (b ≡ digits_value 16 w)

-- the name of the kind
abbrev pub IsKind : List ℕ → Kind → Type 0
IsKind w k = w ≡ kind_name k
