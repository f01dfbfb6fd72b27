-- Numbers (ISO C11, 6.4.4.1, without the suffixes `l` and `ll`).
use Rattle.std.specs.Prelude.{◌≡◌, ℕ, ◌-◌, ◌^◌, ◌<◌, Bool, ◌&&◌, ◌||◌, ◌==◌, nat_le, nat_lt, if◌then◌else◌, List, length, take, drop, slice_index}
use Rattle.ckc_syntax.specs.declared.tokens.TokenKind.TheVariants.{Number}
use Rattle.ckc_lexer.specs.declared.items.Item.{Item}
use Rattle.ckc_lexer.specs.declared.items.Item.TheVariants.{Token, Broken}
use Rattle.ckc_syntax.specs.Bytes.{AllBytes}
use Rattle.ckc_syntax.specs.Digits.{is_digit_in, value_in}
use Rattle.ckc_lexer.specs.Bytes.{is_word_byte}
use Rattle.ckc_lexer.specs.Codes.{bad_literal}

-- a last `u` or `U`
abbrev pub has_suffix : List ℕ → Bool
has_suffix w = let last = slice_index w (length w - 1) in last == 117 || last == 85

-- a number without a last `u` or `U`
abbrev pub without_suffix : List ℕ → List ℕ
without_suffix w = if has_suffix w then take (length w - 1) w else w

-- `0x` or `0X` in front
abbrev pub is_hexadecimal : List ℕ → Bool
is_hexadecimal w = nat_lt 1 (length w) && slice_index w 0 == 48 && (slice_index w 1 == 120 || slice_index w 1 == 88)

-- hexadecimal after `0x`, octal with a leading 0, else decimal
abbrev pub radix_of : List ℕ → ℕ
radix_of w = if is_hexadecimal w then 16 else (if slice_index w 0 == 48 then 8 else 10)

-- the digits of a number without a suffix: all of it but a `0x` or `0X` in front
abbrev pub digits_of : List ℕ → List ℕ
digits_of w = if is_hexadecimal w then drop 2 w else w

-- the digits, without a suffix, stand for n
abbrev pub IsNumeral : List ℕ → ℕ → Type 0
IsNumeral w n =
    (0 < length (digits_of w)) × AllBytes (is_digit_in (radix_of w)) (digits_of w)
    × (n ≡ value_in (radix_of w) (digits_of w)) × (n < 2 ^ 32)

-- The word is a number below 2 ^ 32. It is unsigned with a suffix and from 2 ^ 31 on.
abbrev pub IsNumber : List ℕ → ℕ → Bool → Type 0
IsNumber w n unsigned = IsNumeral (without_suffix w) n × (unsigned ≡ (has_suffix w || nat_le (2 ^ 31) n))

-- The bytes are a number, or they are none and are refused as E103.
abbrev pub NumberCases : List ℕ → Item → Type 0
NumberCases w (Token (Number n unsigned)) = IsNumber w n unsigned
NumberCases w (Broken code) = (code ≡ bad_literal) × ((n : ℕ) (unsigned : Bool) → IsNumber w n unsigned → ⊥)
NumberCases w item = ⊥

-- The whole run of letters, digits and `_` is a number or a fault.
abbrev pub IsNumberItem : List ℕ → Item → Type 0
IsNumberItem w item = AllBytes is_word_byte w × NumberCases w item
