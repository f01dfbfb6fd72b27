-- Registers, numbers and bytes as a reader finds them in words.
use Rattle.std.specs.Prelude.{ℕ, ◌+◌, ◌-◌, ◌*◌, min, Bool, ◌&&◌, ◌==◌, nat_lt, nat_le, if◌then◌else◌, ℤ, pos, neg_ℤ, List, length, drop, slice_index, Option, Some, None}
use Rattle.std.specs.List.{list_all}
use Rattle.std.specs.Option.{option_map}
use Rattle.std.specs.Char.{is_digit}
use Rattle.std.specs.Str.Parse.{digits_value}
use Rattle.ckc_asm.specs.Spelled.{beyond}

-- one digit or more
abbrev pub is_numeral : ℕ → List ℕ → Bool
is_numeral radix w = nat_lt 0 (length w) && list_all (λ b. is_digit b radix) w

-- what the digits stand for; from 2 ^ 40 on, that
abbrev pub numeral_of : ℕ → List ℕ → Option ℕ
numeral_of radix w = if is_numeral radix w then Some (min (digits_value radix w) beyond) else None

abbrev pub is_hexadecimal : List ℕ → Bool
is_hexadecimal w = slice_index w 0 == 48 && slice_index w 1 == 120

-- decimal with an optional `-`, or `0x` and hexadecimal digits
abbrev pub number_of : List ℕ → Option ℤ
number_of w =
    if slice_index w 0 == 45 then option_map (λ n. neg_ℤ (pos n)) (numeral_of 10 (drop 1 w))
    else (if is_hexadecimal w then option_map (λ n. pos n) (numeral_of 16 (drop 2 w))
    else option_map (λ n. pos n) (numeral_of 10 w))

-- `x0` to `x9`, and `x10` to `x31`
abbrev pub short_register : List ℕ → Option ℕ
short_register w =
    if slice_index w 0 == 120 && is_digit (slice_index w 1) 10 then Some (slice_index w 1 - 48) else None

abbrev pub long_number : List ℕ → ℕ
long_number w = 10 * (slice_index w 1 - 48) + (slice_index w 2 - 48)

abbrev pub long_register : List ℕ → Option ℕ
long_register w =
    if slice_index w 0 == 120 && is_digit (slice_index w 1) 10 && is_digit (slice_index w 2) 10
    && nat_le 10 (long_number w) && nat_lt (long_number w) 32
    then Some (long_number w) else None

abbrev pub register_of : List ℕ → Option ℕ
register_of w =
    if length w == 2 then short_register w else (if length w == 3 then long_register w else None)

-- two hexadecimal digits
abbrev pub byte_of : List ℕ → Option ℕ
byte_of w = if length w == 2 && is_numeral 16 w then Some (digits_value 16 w) else None
