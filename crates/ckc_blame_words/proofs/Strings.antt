-- Whatever spells a string, the string is made of bytes.
use Rattle.std.proofs.Common.{◌≡◌, ℕ, zero, suc, ◌+◌, ◌-◌, ◌<◌, ◌&&◌, ◌==◌, nat_lt, nat_le, Bool, true, false, if◌then◌else◌, refl, arith, List, [], ◌∷◌, length, take, drop, slice_index, Option, Some, None}
use Rattle.std.specs.Option.{unwrap_or}
use Rattle.std.specs.List.{list_all}
use Rattle.std.proofs.lemmas.Bool.{and_parts, ltb-true, lt-ltb}
use Rattle.ckc_syntax.specs.Digits.{is_digit_in, value_in}
use Rattle.ckc_syntax.specs.Literals.{simple_escape}
use Rattle.ckc_syntax.specs.code.Decoded.{are_digits_after, is_plain_piece, is_simple, is_octal, is_hexadecimal, hexadecimal_value, octal_value, simple_value, piece_value, or_shorter, longest_piece, with_rest, characters_behind, decoded}
use Rattle.ckc_blame_words.specs.Literals.{are_bytes}
use Rattle.ckc_blame_words.proofs.Tokens.{plain_small, simple_small}

abbrev IsByteIf : Option ℕ → Type 0
IsByteIf None = Unit {0}
IsByteIf (Some u) = u < 256

choose : (b : Bool) (x : ℕ) (o : Option ℕ) → (b ≡ true → x < 256) → IsByteIf o → IsByteIf (if b then Some x else o)
choose true x o f h = f refl
choose false x o f h = h

unwrapped : (o : Option ℕ) → ((v : ℕ) → o ≡ Some v → v < 256) → unwrap_or o 0 < 256
unwrapped None f = omega arith
unwrapped (Some v) f = f v refl

digits_small : (lead most radix : ℕ) (w : List ℕ) → are_digits_after lead most radix w ≡ true → value_in radix (drop lead w) < 256
digits_small lead most radix w h =
    let a = and_parts (nat_lt lead (length w)) _ h in
    let b = and_parts (nat_le (length w) (lead + most)) _ a.1 in
    let c = and_parts (list_all (is_digit_in radix) (drop lead w)) _ b.1 in
    ltb-true _ _ c.1

piece_byte : (quote : ℕ) (w : List ℕ) → IsByteIf (piece_value quote w)
piece_byte quote w =
    choose (is_plain_piece quote w) (slice_index w 0) (simple_value w) (λ e. plain_small quote (slice_index w 0) (and_parts (length w == 1) _ e).1)
    (choose (is_simple w) (unwrap_or (simple_escape (slice_index w 1)) 0) (octal_value w) (λ e. unwrapped (simple_escape (slice_index w 1)) (simple_small (slice_index w 1)))
    (choose (is_octal w) (value_in 8 (drop 1 w)) (hexadecimal_value w) (λ e. digits_small 1 3 8 w (and_parts (slice_index w 0 == 92) _ e).1)
    (choose (is_hexadecimal w) (value_in 16 (drop 2 w)) None (λ e. digits_small 2 2 16 w (and_parts (slice_index w 1 == 120) _ (and_parts (slice_index w 0 == 92) _ e).1).1) tt)))

abbrev HasByteIf : Option (ℕ × ℕ) → Type 0
HasByteIf None = Unit {0}
HasByteIf (Some p) = p.1 < 256

longest_byte : (quote n : ℕ) (w : List ℕ) → HasByteIf (longest_piece quote n w)
unfolding longest_piece
longest_byte quote zero w = tt
longest_byte quote (suc n) w = by (piece_value quote (take (suc n) w)) (longest_piece quote n w) (piece_byte quote (take (suc n) w)) (longest_byte quote n w)
  where
    by : (o : Option ℕ) (s : Option (ℕ × ℕ)) → IsByteIf o → HasByteIf s → HasByteIf (or_shorter (suc n) o s)
    by None s h g = g
    by (Some u) s h g = h

led : (b : ℕ) (bytes : List ℕ) → b < 256 → are_bytes bytes ≡ true → are_bytes (b ∷ bytes) ≡ true
led b bytes h g = both (nat_lt b 256) (are_bytes bytes) (lt-ltb b 256 h) g
  where
    both : (a c : Bool) → a ≡ true → c ≡ true → (a && c) ≡ true
    both true c e f = f
    both false c e f = absurd cc

rest_bytes : (rest : ℕ → List ℕ) (o : Option (ℕ × ℕ)) → ((n : ℕ) → are_bytes (rest n) ≡ true) → HasByteIf o → are_bytes (with_rest rest o) ≡ true
rest_bytes rest None f h = refl
rest_bytes rest (Some p) f h = led p.1 (rest (p.0 - 1)) h (f (p.0 - 1))

characters_bytes : (quote : ℕ) (w : List ℕ) (n : ℕ) → are_bytes (characters_behind quote n w) ≡ true
unfolding characters_behind
characters_bytes quote [] n = refl
characters_bytes quote (b ∷ w) (suc n) = characters_bytes quote w n
characters_bytes quote (b ∷ w) zero =
    rest_bytes (λ n. characters_behind quote n w) (longest_piece quote (length (b ∷ w)) (b ∷ w)) (λ n. characters_bytes quote w n) (longest_byte quote (length (b ∷ w)) (b ∷ w))

pub decoded_bytes : (w : List ℕ) → are_bytes (decoded w) ≡ true
decoded_bytes w = characters_bytes 34 w 1
