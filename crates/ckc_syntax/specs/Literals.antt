-- Characters and strings (ISO C11, 6.4.4.4 and 6.4.5, without prefixes).
use Rattle.std.specs.Prelude.{◌≡◌, ℕ, ◌+◌, ◌<◌, ◌≤◌, Bool, true, not, ◌&&◌, ◌||◌, ◌==◌, if◌then◌else◌, List, [], ◌∷◌, length, drop, slice_index, Option, Some, None}
use Rattle.ckc_syntax.specs.Bytes.{is_between, AllBytes}
use Rattle.ckc_syntax.specs.Longest.{Longest}
use Rattle.ckc_syntax.specs.Digits.{is_digit_in, value_in}

-- a byte that stands for itself: 0x20 to 0x7E, but for the quote and the backslash
abbrev pub is_plain : ℕ → ℕ → Bool
is_plain quote b = is_between 32 126 b && not (b == quote) && not (b == 92)

-- what the letter after a backslash stands for: n t r a b f v \ ' " ?
abbrev pub simple_escape : ℕ → Option ℕ
simple_escape b =
    if b == 110 then Some 10
    else (if b == 116 then Some 9
    else (if b == 114 then Some 13
    else (if b == 97 then Some 7
    else (if b == 98 then Some 8
    else (if b == 102 then Some 12
    else (if b == 118 then Some 11
    else (if b == 92 || b == 39 || b == 34 || b == 63 then Some b
    else None)))))))

-- after `lead` bytes one to `most` digits, which stand for a number below 256
pub record IsDigitsAfter (lead most radix : ℕ) (w : List ℕ) (value : ℕ) : Type 0 where
  pub some : lead < length w
  pub few : length w ≤ lead + most
  pub digits : AllBytes (is_digit_in radix) (drop lead w)
  pub stands_for : value ≡ value_in radix (drop lead w)
  pub small : value < 256

-- An escape: after a backslash a letter, one to three octal digits, or `x` and one or two hexadecimal
-- digits.
pub data IsEscape (w : List ℕ) (value : ℕ) : Type 0 where
  simple : length w ≡ 2 → slice_index w 0 ≡ 92 → simple_escape (slice_index w 1) ≡ Some value → IsEscape w value
  octal : slice_index w 0 ≡ 92 → IsDigitsAfter 1 3 8 w value → IsEscape w value
  hexadecimal : slice_index w 0 ≡ 92 → slice_index w 1 ≡ 120 → IsDigitsAfter 2 2 16 w value → IsEscape w value

-- One character of a literal with this quote: a plain byte or an escape.
pub data IsPiece (quote : ℕ) (w : List ℕ) (value : ℕ) : Type 0 where
  plain : length w ≡ 1 → is_plain quote (slice_index w 0) ≡ true → value ≡ slice_index w 0 → IsPiece quote w value
  escape : IsEscape w value → IsPiece quote w value

-- The bytes are characters, each the longest at its place, and the quote that ends them.
pub data Characters (quote : ℕ) : List ℕ → List ℕ → Type 0 where
  ends : {w : List ℕ} → w ≡ quote ∷ [] → Characters quote w []
  next : {w values : List ℕ} (n value : ℕ) → Longest (IsPiece quote) w n value → Characters quote (drop n w) values → Characters quote w (value ∷ values)

-- a literal with this quote, whose characters have these values
abbrev pub IsLiteral : ℕ → List ℕ → List ℕ → Type 0
IsLiteral quote w values = (slice_index w 0 ≡ quote) × Characters quote (drop 1 w) values
