-- Registers, numbers and bytes as a listing writes them, read back.
use Rattle.std.proofs.Common.{◌≡◌, ℕ, zero, suc, ◌+◌, ◌-◌, ◌*◌, ◌/◌, ◌%◌, ◌^◌, ◌<◌, ◌≤◌, ℤ, pos, negsuc, neg_ℤ, Bool, true, false, ◌&&◌, ◌==◌, nat_lt, nat_le, List, [], ◌∷◌, ◌++◌, length, Some, refl, ap, ◌∙◌, subst, arith, ⊎_elim, ◌⊎◌}
use Rattle.std.specs.List.{list_all, slice_index}
use Rattle.std.specs.Option.{option_map}
use Rattle.std.specs.Char.{digit_value, is_digit}
use Rattle.std.specs.Fmt.{decimal, signed_decimal}
use Rattle.std.specs.Str.Parse.{IsNumeral, AllDigits, digits_value}
use Rattle.std.proofs.lemmas.Fmt.{decimal_is_IsNumeral, decimal_digit, decimal_step}
use Rattle.std.proofs.lemmas.Int.{ints}
use Rattle.std.proofs.lemmas.Bool.{cases_lt, lt-ltb}
use Rattle.std.proofs.lemmas.Bool.Decides.{nat_tests}
use Rattle.ckc_rv.specs.Table.{IsSigned}
use Rattle.ckc_asm.specs.Names.{register, hex_digit, hex, hexadecimal}
use Rattle.ckc_asm.specs.code.Numerals.{is_numeral, numeral_of, is_hexadecimal, number_of, register_of, byte_of}
use Rattle.ckc_asm.specs.Spelled.{is_letter, is_name}
use Rattle.ckc_asm.specs.Spelled as spelled
use Rattle.ckc_asm.proofs.Words.{is_plain, IsRun}

-- a digit is a plain byte
digit_range : (b : ℕ) → digit_value b < 16 → (48 ≤ b) × ((b < 58) ⊎ (65 ≤ b))
digit_range b h = grind (arith, nat_tests)

is_not : (b k : ℕ) → (b ≡ k → ⊥) → (b == k) ≡ false
is_not b k h = grind (arith, nat_tests)

digit_plain : (b : ℕ) → digit_value b < 16 → is_plain b ≡ true
digit_plain b h =
    let r = digit_range b h in
    let e32 : (b == 32) ≡ false = is_not b 32 (λ e. omega (arith, r.0)) in
    let e9 : (b == 9) ≡ false = is_not b 9 (λ e. omega (arith, r.0)) in
    let e13 : (b == 13) ≡ false = is_not b 13 (λ e. omega (arith, r.0)) in
    let e44 : (b == 44) ≡ false = is_not b 44 (λ e. omega (arith, r.0)) in
    let e40 : (b == 40) ≡ false = is_not b 40 (λ e. omega (arith, r.0)) in
    let e41 : (b == 41) ≡ false = is_not b 41 (λ e. omega (arith, r.0)) in
    let e35 : (b == 35) ≡ false = is_not b 35 (λ e. omega (arith, r.0)) in
    let e10 : (b == 10) ≡ false = is_not b 10 (λ e. omega (arith, r.0)) in
    let e58 : (b == 58) ≡ false = is_not b 58 (λ e. ⊎_elim (λ (l : b < 58). omega arith) (λ (g : 65 ≤ b). omega arith) r.1) in
    rw (e32, e9, e13, e44, e40, e41, e58, e35, e10) refl

digits_plain : (radix : ℕ) (w : List ℕ) → radix ≤ 16 → AllDigits radix w → list_all is_plain w ≡ true
digits_plain radix [] h d = refl
digits_plain radix (b ∷ w) h d = rw (digit_plain b (omega (arith, d.0)), digits_plain radix w h d.1) refl

numeral_run : (radix : ℕ) (w : List ℕ) → radix ≤ 16 → IsNumeral radix w → IsRun w
numeral_run radix w h n = record { some = n.0; plain = digits_plain radix w h n.1 }

digits_all : (radix : ℕ) (w : List ℕ) → AllDigits radix w → list_all (λ b. is_digit b radix) w ≡ true
digits_all radix [] d = refl
digits_all radix (b ∷ w) d = let t : is_digit b radix ≡ true = lt-ltb (digit_value b) radix d.0 in rw (t, digits_all radix w d.1) refl

pub is_numeral_from : (radix : ℕ) (w : List ℕ) → IsNumeral radix w → is_numeral radix w ≡ true
is_numeral_from radix w n = let t : nat_lt 0 (length w) ≡ true = lt-ltb 0 (length w) n.0 in rw (t, digits_all radix w n.1) refl

numeral_back : (radix n : ℕ) (w : List ℕ) → IsNumeral radix w → digits_value radix w ≡ n → n ≤ 2 ^ 40 → numeral_of radix w ≡ Some n
numeral_back radix n w is e small = rw (is_numeral_from radix w is) (ap Some (omega (arith, e)))

-- ---- decimal numbers

pub decimal_run : (n : ℕ) → n < 2 ^ 64 → IsRun (decimal n)
decimal_run n h = numeral_run 10 (decimal n) (omega arith) (decimal_is_IsNumeral n h).0

-- a decimal numeral begins with no sign and no `0x`
pub first_digit : (w : List ℕ) → IsNumeral 10 w → (slice_index w 0 == 45) ≡ false
first_digit [] n = absurd (omega (arith, n.0))
first_digit (b ∷ w) n = is_not b 45 (λ e. omega (arith, (digit_range b (omega (arith, n.1.0))).0))

pub no_x : (w : List ℕ) → AllDigits 10 w → (slice_index w 1 == 120) ≡ false
no_x [] d = refl
no_x (b ∷ []) d = refl
no_x (b ∷ c ∷ w) d = is_not c 120 (λ e. let h : digit_value 120 < 10 = subst (λ n. digit_value n < 10) e d.1.0 in omega arith)

and_false : (a b : Bool) → b ≡ false → (a && b) ≡ false
and_false true b h = h
and_false false b h = refl

pub decimal_back : (n : ℕ) → n ≤ 2 ^ 40 → number_of (decimal n) ≡ Some (pos n)
decimal_back n small =
    let is = decimal_is_IsNumeral n (omega arith) in
    let hex_not : is_hexadecimal (decimal n) ≡ false = and_false _ _ (no_x (decimal n) is.0.1) in
    let found : numeral_of 10 (decimal n) ≡ Some n = numeral_back 10 n (decimal n) is.0 is.1 small in
    rw (first_digit (decimal n) is.0, hex_not, found) refl

pub signed_back : (z : ℤ) → IsSigned (2 ^ 30) z → number_of (signed_decimal z) ≡ Some z
signed_back (pos n) h = decimal_back n (omega (arith, ints))
signed_back (negsuc n) h =
    let small : suc n ≤ 2 ^ 40 = omega (arith, ints) in
    let is = decimal_is_IsNumeral (suc n) (omega arith) in
    ap (λ o. option_map (λ m. neg_ℤ (pos m)) o) (numeral_back 10 (suc n) (decimal (suc n)) is.0 is.1 small)

pub signed_run : (z : ℤ) → IsSigned (2 ^ 30) z → IsRun (signed_decimal z)
signed_run (pos n) h = decimal_run n (omega (arith, ints))
signed_run (negsuc n) h = let r = decimal_run (suc n) (omega (arith, ints)) in record { some = omega arith; plain = r.plain }

-- ---- registers

pub register_run : (n : ℕ) → n < 32 → IsRun (register n)
register_run n h = let r = decimal_run n (omega arith) in record { some = omega arith; plain = r.plain }

digit_is : (d : ℕ) → d < 10 → is_digit (48 + d) 10 ≡ true
digit_is d h = grind (arith, nat_tests)

less : (a b : ℕ) → a < b → nat_lt a b ≡ true
less a b h = lt-ltb a b h

pub most : (a b : ℕ) → a ≤ b → nat_le a b ≡ true
most a b h = grind (arith, nat_tests)

short_back : (n : ℕ) → n < 10 → register_of (120 ∷ (48 + n) ∷ []) ≡ Some n
short_back n h = let back : 48 + n - 48 ≡ n = omega arith in rw (digit_is n h, back) refl

long_back : (n a b : ℕ) → a < 10 → b < 10 → 10 ≤ n → n < 32 → n ≡ 10 * a + b → register_of (120 ∷ (48 + a) ∷ (48 + b) ∷ []) ≡ Some n
long_back n a b ha hb low high e =
    let value : 10 * (48 + a - 48) + (48 + b - 48) ≡ n = omega arith in
    rw (digit_is a ha, digit_is b hb, value, most 10 n low, less n 32 high) refl

pub register_back : (n : ℕ) → n < 32 → register_of (register n) ≡ Some n
register_back n h = ⊎_elim
    (λ (l : n < 10). ap (λ w. register_of (120 ∷ w)) (decimal_digit n l) ∙ short_back n l)
    (λ (g : 10 ≤ n). ap (λ w. register_of (120 ∷ w)) (decimal_step n g (omega arith) ∙ ap (λ w. w ++ (48 + n % 10) ∷ []) (decimal_digit (n / 10) (omega arith)))
    ∙ long_back n (n / 10) (n % 10) (omega arith) (omega arith) g h (omega arith))
    (cases_lt n 10)

-- ---- hexadecimal digits

hex_back : (d : ℕ) → d < 16 → digit_value (hex_digit d) ≡ d
hex_back d h = grind (arith, nat_tests)

hex_value_back : (d v : ℕ) → v < 16 → d ≡ hex_digit v → digit_value d ≡ v
hex_value_back d v h e = ap digit_value e ∙ hex_back v h

hex_numeral : (count n : ℕ) → AllDigits 16 (hex count n)
unfolding hex
hex_numeral zero n = tt
hex_numeral (suc count) n = (let e = hex_back (n / 16 ^ count % 16) (omega arith) in omega (arith, e), hex_numeral count n)

hex_2 : (n : ℕ) → n < 2 ^ 8 → digits_value 16 (hex 2 n) ≡ n
unfolding hex
hex_2 n h = rw (hex_back (n / 16 % 16) (omega arith), hex_back (n / 1 % 16) (omega arith)) (omega arith)

hex_5 : (n : ℕ) → n < 2 ^ 20 → digits_value 16 (hex 5 n) ≡ n
unfolding hex
hex_5 n h = rw (hex_back (n / 65536 % 16) (omega arith), hex_back (n / 4096 % 16) (omega arith), hex_back (n / 256 % 16) (omega arith), hex_back (n / 16 % 16) (omega arith), hex_back (n / 1 % 16) (omega arith)) (omega arith)

hex_8 : (n : ℕ) → n < 2 ^ 32 → digits_value 16 (hex 8 n) ≡ n
unfolding hex
hex_8 n h = rw (
  hex_back (n / 268435456 % 16) (omega arith),
  hex_back (n / 16777216 % 16) (omega arith),
  hex_back (n / 1048576 % 16) (omega arith),
  hex_back (n / 65536 % 16) (omega arith),
  hex_back (n / 4096 % 16) (omega arith),
  hex_back (n / 256 % 16) (omega arith),
  hex_back (n / 16 % 16) (omega arith),
  hex_back (n / 1 % 16) (omega arith),
) (omega arith)

length-hex : (count n : ℕ) → length (hex count n) ≡ count
unfolding hex
length-hex zero n = refl
length-hex (suc count) n = omega (arith, length-hex count n)

hex_is : (count n : ℕ) → 0 < count → IsNumeral 16 (hex count n)
hex_is count n h = (omega (arith, length-hex count n), hex_numeral count n)

pub hexadecimal_run : (count n : ℕ) → 0 < count → IsRun (hexadecimal count n)
hexadecimal_run count n h = let r = numeral_run 16 (hex count n) (omega arith) (hex_is count n h) in record { some = omega arith; plain = r.plain }

pub hexadecimal_back : (count n : ℕ) → 0 < count → digits_value 16 (hex count n) ≡ n → n ≤ 2 ^ 40 → number_of (hexadecimal count n) ≡ Some (pos n)
hexadecimal_back count n some e small = ap (λ o. option_map (λ m. pos m) o) (numeral_back 16 n (hex count n) (hex_is count n some) e small)

pub upper_back : (n : ℕ) → n < 2 ^ 20 → number_of (hexadecimal 5 n) ≡ Some (pos n)
upper_back n h = hexadecimal_back 5 n (omega arith) (hex_5 n h) (omega arith)

pub word_back : (n : ℕ) → n < 2 ^ 32 → number_of (hexadecimal 8 n) ≡ Some (pos n)
word_back n h = hexadecimal_back 8 n (omega arith) (hex_8 n h) (omega arith)

pub byte_run : (n : ℕ) → IsRun (hex 2 n)
byte_run n = numeral_run 16 (hex 2 n) (omega arith) (hex_is 2 n (omega arith))

pub byte_back : (n : ℕ) → n < 2 ^ 8 → byte_of (hex 2 n) ≡ Some n
byte_back n h =
    let two : (length (hex 2 n) == 2) ≡ true = ap (λ k. k == 2) (length-hex 2 n) in
    rw (two, is_numeral_from 16 (hex 2 n) (hex_is 2 n (omega arith)), hex_2 n h) refl

digit_letter : (b : ℕ) → digit_value b < 10 → is_letter b ≡ false
digit_letter b h = grind (arith, nat_tests)

pub middle_false : (a c : Bool) → (a && false && c) ≡ false
middle_false true c = refl
middle_false false c = refl

begins_no_name : (w : List ℕ) → IsNumeral 10 w → is_name w ≡ false
begins_no_name [] n = absurd (omega (arith, n.0))
begins_no_name (b ∷ w) n = rw (digit_letter b n.1.0) (middle_false _ _)

-- a decimal number is no name
pub decimal_no_name : (n : ℕ) → n < 2 ^ 64 → is_name (decimal n) ≡ false
decimal_no_name n h = begins_no_name (decimal n) (decimal_is_IsNumeral n h).0

-- a number is no name
pub number_no_name : (w : List ℕ) (z : ℤ) → spelled.IsNumber w z → is_name w ≡ false
number_no_name w z (spelled.plain n s e) = begins_no_name w s.0
number_no_name w z (spelled.negative digits n is s e) = ap is_name is ∙ middle_false _ _
number_no_name w z (spelled.hexadecimal digits n is s e) = ap is_name is ∙ middle_false _ _
