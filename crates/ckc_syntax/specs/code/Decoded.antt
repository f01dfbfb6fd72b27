-- The bytes that a string's spelling stands for, as a function. It need not be believed: the law
-- `literals_have_bytes` says that they are those of the literal that the spelling is. If it is none, they are those
-- of the characters that it has in front.
use Rattle.std.specs.Prelude.{ℕ, zero, suc, ◌+◌, ◌-◌, Bool, ◌&&◌, ◌==◌, nat_lt, nat_le, if◌then◌else◌, List, [], ◌∷◌, length, take, drop, slice_index, Option, Some, None, is_some}
use Rattle.std.specs.Option.{unwrap_or}
use Rattle.std.specs.List.{list_all}
use Rattle.ckc_syntax.specs.Digits.{is_digit_in, value_in}
use Rattle.ckc_syntax.specs.Literals.{is_plain, simple_escape}

-- after `lead` bytes one to `most` digits, which stand for a number below 256
abbrev pub are_digits_after : ℕ → ℕ → ℕ → List ℕ → Bool
are_digits_after lead most radix w =
    nat_lt lead (length w) && (nat_le (length w) (lead + most)
    && (list_all (is_digit_in radix) (drop lead w) && nat_lt (value_in radix (drop lead w)) 256))

-- the four ways to spell a character of a literal with this quote, by all of the bytes
abbrev pub is_plain_piece : ℕ → List ℕ → Bool
is_plain_piece quote w = length w == 1 && is_plain quote (slice_index w 0)

-- an escape of a backslash and one character, such as `\n`
abbrev pub is_simple : List ℕ → Bool
is_simple w = length w == 2 && (slice_index w 0 == 92 && is_some (simple_escape (slice_index w 1)))

-- an octal escape, such as `\101`
abbrev pub is_octal : List ℕ → Bool
is_octal w = slice_index w 0 == 92 && are_digits_after 1 3 8 w

-- a hexadecimal escape, such as `\x41`
abbrev pub is_hexadecimal : List ℕ → Bool
is_hexadecimal w = slice_index w 0 == 92 && (slice_index w 1 == 120 && are_digits_after 2 2 16 w)

-- the value of the bytes if all of them are one character
abbrev pub hexadecimal_value : List ℕ → Option ℕ
hexadecimal_value w = if is_hexadecimal w then Some (value_in 16 (drop 2 w)) else None

-- the same for an octal escape, or else for a hexadecimal one
abbrev pub octal_value : List ℕ → Option ℕ
octal_value w = if is_octal w then Some (value_in 8 (drop 1 w)) else hexadecimal_value w

-- the same for an escape of a backslash and one character, or else for one with digits
abbrev pub simple_value : List ℕ → Option ℕ
simple_value w = if is_simple w then Some (unwrap_or (simple_escape (slice_index w 1)) 0) else octal_value w

-- the same for a character of a literal with this quote, in any of the four ways
abbrev pub piece_value : ℕ → List ℕ → Option ℕ
piece_value quote w = if is_plain_piece quote w then Some (slice_index w 0) else simple_value w

-- a character of n bytes with its value, or if they are none, a shorter one
abbrev pub or_shorter : ℕ → Option ℕ → Option (ℕ × ℕ) → Option (ℕ × ℕ)
or_shorter n (Some value) shorter = Some (n, value)
or_shorter n None shorter = shorter

-- the longest character among the fronts of up to n bytes: how long it is, and its value
unfoldable pub longest_piece : ℕ → ℕ → List ℕ → Option (ℕ × ℕ)
longest_piece quote zero w = None
longest_piece quote (suc n) w = or_shorter (suc n) (piece_value quote (take (suc n) w)) (longest_piece quote n w)

-- the value of a character and those of the characters after it, and nothing if there is no character
abbrev pub with_rest : (ℕ → List ℕ) → Option (ℕ × ℕ) → List ℕ
with_rest rest None = []
with_rest rest (Some p) = p.1 ∷ rest (p.0 - 1)

-- the values of the characters after the first n bytes, each the longest at its place, as far as they go
unfoldable pub characters_behind : ℕ → ℕ → List ℕ → List ℕ
characters_behind quote n [] = []
characters_behind quote (suc n) (b ∷ w) = characters_behind quote n w
characters_behind quote zero (b ∷ w) = with_rest (λ n. characters_behind quote n w) (longest_piece quote (length (b ∷ w)) (b ∷ w))

-- the bytes of a string in double quotes
abbrev pub decoded : List ℕ → List ℕ
decoded spelling = characters_behind 34 1 spelling
