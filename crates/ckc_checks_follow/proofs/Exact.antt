-- The exact address of an element, tested in 32 bits: the address so many elements after or before is one if the
-- upper word of the product and the carry (or the borrow) of the sum (or difference) of words cancel.
use Rattle.std.proofs.Common.{◌≡◌, ℕ, zero, suc, ◌+◌, ◌-◌, ◌*◌, ◌/◌, ◌%◌, ◌^◌, ◌≤◌, ◌<◌, ◌==◌, nat_lt, nat_le, if◌then◌else◌, Bool, true, false, refl, sym, ◌∙◌, ap, arith}
use Rattle.std.proofs.lemmas.Bool.Decides.{nat_tests}
use Rattle.std.specs.Prelude.{pos, negsuc, neg_ℤ, ◌+ℤ◌, ◌-ℤ◌, ◌*ℤ◌, Some, None}
use Rattle.std.specs.Int.{int_shr}
use Rattle.std.proofs.lemmas.Int.{ints}
use Rattle.std.proofs.Math.IntN.{pos-*ℤ-pos, pos-*ℤ-negsuc}
use Rattle.std.proofs.Math.Nat.{mul-le-mul_left, mul-le-mul_right}
use Rattle.ckc_base.specs.declared.arithmetic.BinOp.TheVariants as binary
use Rattle.ckc_base.specs.Products.{high_product}
use Rattle.ckc_base.specs.Words.{signed, word_of, flag, applied}
use Rattle.ckc_source.specs.declared.expr.Integer.{Integer}
use Rattle.ckc_source.specs.declared.expr.Integer.TheVariants as integer
use Rattle.ckc_source.specs.Words.{exact, as_address}
use Rattle.ckc_checks_operands.specs.code.Pointers.{reads_signed}

-- forward by a product that is not negative
ahead_carries : (v p : ℕ) → v < 2 ^ 32 → p ≤ 18446744065119617025 → (carry : Bool) → nat_lt ((v + p % 2 ^ 32) % 2 ^ 32) v ≡ carry
    → ((p / 2 ^ 32 + flag carry) % 2 ^ 32 == 0) ≡ nat_lt (v + p) (2 ^ 32)
ahead_carries v p h k true c = grind (arith, nat_tests)
ahead_carries v p h k false c = grind (arith, nat_tests)

-- back by a product that is not negative
back_borrows : (v p : ℕ) → v < 2 ^ 32 → p ≤ 18446744065119617025 → (borrow : Bool) → nat_lt v ((v + (2 ^ 32 - p % 2 ^ 32)) % 2 ^ 32) ≡ borrow
    → ((p / 2 ^ 32 + flag borrow) % 2 ^ 32 == 0) ≡ nat_le p v
back_borrows v p h k true c = grind (arith, nat_tests)
back_borrows v p h k false c = grind (arith, nat_tests)

-- forward by a negative product: r is the product of the words
ahead_borrows : (v q r size : ℕ) → v < 2 ^ 32 → q ≤ 4611686018427387904 → 1 ≤ q → r + q ≡ size * 2 ^ 32 → (carry : Bool) → nat_lt ((v + r % 2 ^ 32) % 2 ^ 32) v ≡ carry
    → ((2 ^ 32 - 1 - (q - 1) / 2 ^ 32 + flag carry) % 2 ^ 32 == 0) ≡ nat_le q v
ahead_borrows v q r size h k one e true c = grind (arith, nat_tests)
ahead_borrows v q r size h k one e false c = grind (arith, nat_tests)

-- back by a negative product
back_carries : (v q r size : ℕ) → v < 2 ^ 32 → q ≤ 4611686018427387904 → 1 ≤ q → r + q ≡ size * 2 ^ 32 → (borrow : Bool) → nat_lt v ((v + (2 ^ 32 - r % 2 ^ 32)) % 2 ^ 32) ≡ borrow
    → ((2 ^ 32 - 1 - (q - 1) / 2 ^ 32 + flag borrow) % 2 ^ 32 == 0) ≡ nat_lt (v + q) (2 ^ 32)
back_carries v q r size h k one e true c = grind (arith, nat_tests)
back_carries v q r size h k one e false c = grind (arith, nat_tests)

product_below : (m n k : ℕ) → m ≤ k → n ≤ k → m * n ≤ k * k
product_below m n k h i = omega (arith, mul-le-mul_left m i, mul-le-mul_right k h)

product_small : (a b : ℕ) → a < 2 ^ 32 → b < 2 ^ 32 → a * b ≤ 18446744065119617025
product_small a b h k = let p : a * b ≤ 4294967295 * 4294967295 = product_below a b 4294967295 (omega arith) (omega arith) in omega arith

half_product : (a b : ℕ) → a < 2 ^ 31 → b ≤ 2 ^ 31 → a * b ≤ 4611686018427387904
half_product a b h k = let p : a * b ≤ 2147483648 * 2147483648 = product_below a b 2147483648 (omega arith) (omega arith) in omega arith

pub low_signed : (i : ℕ) → i < 2 ^ 31 → signed i ≡ pos i
low_signed i h = grind (arith, ints)

pub high_signed : (i : ℕ) → 2 ^ 31 ≤ i → i < 2 ^ 32 → signed i ≡ negsuc (4294967295 - i)
high_signed i h k = grind (arith, ints)

shifted_pos : (n : ℕ) → n / 2 ^ 32 < 2 ^ 32 → word_of (int_shr (pos n) 32) ≡ n / 2 ^ 32
shifted_pos n h = omega arith

shifted_negsuc : (n : ℕ) → n / 2 ^ 32 < 2 ^ 32 → word_of (int_shr (negsuc n) 32) ≡ 2 ^ 32 - 1 - n / 2 ^ 32
shifted_negsuc n h = omega arith

neg_pos : (q : ℕ) → 1 ≤ q → neg_ℤ (pos q) ≡ negsuc (q - 1)
neg_pos q h = grind (arith, ints)

address_ahead : (v p : ℕ) → as_address (pos v +ℤ pos p) ≡ (if nat_lt (v + p) (2 ^ 32) then Some (v + p) else None)
address_ahead v p = refl

difference : (v p : ℕ) → p ≤ v → pos v -ℤ pos p ≡ pos (v - p)
difference v p h = grind (arith, ints)

below_zero : (v p : ℕ) → v < p → pos v -ℤ pos p ≡ negsuc (p - v - 1)
below_zero v p h = grind (arith, ints)

address_back : (v p : ℕ) → v < 2 ^ 32 → (fits : Bool) → nat_le p v ≡ fits → as_address (pos v -ℤ pos p) ≡ (if fits then Some (v - p) else None)
address_back v p h true e =
    let le : p ≤ v = grind (arith, nat_tests) in
    let less : nat_lt (v - p) (2 ^ 32) ≡ true = grind (arith, nat_tests) in
    ap as_address (difference v p le) ∙ ap (λ b. if b then Some (v - p) else None) less
address_back v p h false e =
    let more : v < p = grind (arith, nat_tests) in
    ap as_address (below_zero v p more)

minus_neg : (v q : ℕ) → 1 ≤ q → pos v -ℤ negsuc (q - 1) ≡ pos v +ℤ pos q
minus_neg v q h = grind (arith, ints)

plus_neg : (v q : ℕ) → 1 ≤ q → pos v +ℤ negsuc (q - 1) ≡ pos v -ℤ pos q
plus_neg v q h = grind (arith, ints)

sum_ahead : (v p : ℕ) → nat_lt (v + p) (2 ^ 32) ≡ true → (v + p % 2 ^ 32) % 2 ^ 32 ≡ v + p
sum_ahead v p e = grind (arith, nat_tests)

sum_back : (v p : ℕ) → v < 2 ^ 32 → nat_le p v ≡ true → (v + (2 ^ 32 - p % 2 ^ 32)) % 2 ^ 32 ≡ v - p
sum_back v p h e = grind (arith, nat_tests)

sum_ahead_negative : (v q r size : ℕ) → v < 2 ^ 32 → r + q ≡ size * 2 ^ 32 → nat_le q v ≡ true → (v + r % 2 ^ 32) % 2 ^ 32 ≡ v - q
sum_ahead_negative v q r size h k e = grind (arith, nat_tests)

sum_back_negative : (v q r size : ℕ) → v < 2 ^ 32 → r + q ≡ size * 2 ^ 32 → nat_lt (v + q) (2 ^ 32) ≡ true → (v + (2 ^ 32 - r % 2 ^ 32)) % 2 ^ 32 ≡ v + q
sum_back_negative v q r size h k e = grind (arith, nat_tests)

negative_product : (size i : ℕ) → 2 ^ 31 ≤ i → i < 2 ^ 32 → size * i + size * (4294967296 - i) ≡ size * 2 ^ 32
negative_product size i h k = let e : i + (4294967296 - i) ≡ 4294967296 = omega arith in sym (distribute size i (4294967296 - i)) ∙ ap (λ n. size * n) e
  where
    distribute : (a b c : ℕ) → a * (b + c) ≡ a * b + a * c
    distribute a b c = grind arith

-- ---- the test of an address

chosen : (fits test : Bool) (x y : ℕ) → test ≡ fits → (fits ≡ true → y ≡ x) → (if fits then Some x else None) ≡ (if test then Some y else None)
chosen true true x y e h = ap Some (sym (h refl))
chosen true false x y e h = absurd (let wrong : true ≡ false = sym e in cc)
chosen false true x y e h = absurd (let wrong : true ≡ false = e in cc)
chosen false false x y e h = refl

-- whether the upper word of a product and the carry after an address cancel
abbrev pub carries : ℕ → ℕ → ℕ → Bool
carries high v sum = (high + flag (nat_lt sum v)) % 2 ^ 32 == 0

abbrev pub borrows : ℕ → ℕ → ℕ → Bool
borrows high v sum = (high + flag (nat_lt v sum)) % 2 ^ 32 == 0

fits_ahead : (v p : ℕ) → v < 2 ^ 32 → p ≤ 18446744065119617025
    → as_address (pos v +ℤ pos p) ≡ (if carries (p / 2 ^ 32) v (applied binary.Add v (p % 2 ^ 32)) then Some (applied binary.Add v (p % 2 ^ 32)) else None)
fits_ahead v p h k =
    let sum = applied binary.Add v (p % 2 ^ 32) in
    address_ahead v p ∙ chosen (nat_lt (v + p) (2 ^ 32)) (carries (p / 2 ^ 32) v sum) (v + p) sum (ahead_carries v p h k (nat_lt sum v) refl) (sum_ahead v p)

fits_back : (v p : ℕ) → v < 2 ^ 32 → p ≤ 18446744065119617025
    → as_address (pos v -ℤ pos p) ≡ (if borrows (p / 2 ^ 32) v (applied binary.Sub v (p % 2 ^ 32)) then Some (applied binary.Sub v (p % 2 ^ 32)) else None)
fits_back v p h k =
    let sum = applied binary.Sub v (p % 2 ^ 32) in
    address_back v p h (nat_le p v) refl ∙ chosen (nat_le p v) (borrows (p / 2 ^ 32) v sum) (v - p) sum (back_borrows v p h k (nat_lt v sum) refl) (sum_back v p h)

falls_ahead : (v q r size : ℕ) → v < 2 ^ 32 → q ≤ 4611686018427387904 → 1 ≤ q → r + q ≡ size * 2 ^ 32
    → as_address (pos v +ℤ negsuc (q - 1)) ≡ (if carries (2 ^ 32 - 1 - (q - 1) / 2 ^ 32) v (applied binary.Add v (r % 2 ^ 32)) then Some (applied binary.Add v (r % 2 ^ 32)) else None)
falls_ahead v q r size h k one e =
    let sum = applied binary.Add v (r % 2 ^ 32) in
    ap as_address (plus_neg v q one) ∙ address_back v q h (nat_le q v) refl
    ∙ chosen (nat_le q v) (carries (2 ^ 32 - 1 - (q - 1) / 2 ^ 32) v sum) (v - q) sum (ahead_borrows v q r size h k one e (nat_lt sum v) refl) (sum_ahead_negative v q r size h e)

falls_back : (v q r size : ℕ) → v < 2 ^ 32 → q ≤ 4611686018427387904 → 1 ≤ q → r + q ≡ size * 2 ^ 32
    → as_address (pos v -ℤ negsuc (q - 1)) ≡ (if borrows (2 ^ 32 - 1 - (q - 1) / 2 ^ 32) v (applied binary.Sub v (r % 2 ^ 32)) then Some (applied binary.Sub v (r % 2 ^ 32)) else None)
falls_back v q r size h k one e =
    let sum = applied binary.Sub v (r % 2 ^ 32) in
    ap as_address (minus_neg v q one) ∙ address_ahead v q
    ∙ chosen (nat_lt (v + q) (2 ^ 32)) (borrows (2 ^ 32 - 1 - (q - 1) / 2 ^ 32) v sum) (v + q) sum (back_carries v q r size h k one e (nat_lt v sum) refl) (sum_back_negative v q r size h e)

-- ---- products of words

negative_part : (size i : ℕ) → 2 ^ 31 ≤ i → i < 2 ^ 32 → size * i + size * suc (4294967295 - i) ≡ size * 2 ^ 32
negative_part size i h k =
    let e : 4294967296 - i ≡ suc (4294967295 - i) = omega arith in
    ap (λ n. size * i + size * n) (sym e) ∙ negative_product size i h k

some_product : (size m : ℕ) → 1 ≤ size → 1 ≤ size * suc m
some_product zero m h = absurd (omega arith)
some_product (suc size) m h = omega arith

product_low : (size i : ℕ) → size < 2 ^ 31 → i < 2 ^ 31 → signed size *ℤ signed i ≡ pos (size * i)
product_low size i h k = ap (λ z. z *ℤ signed i) (low_signed size h) ∙ ap (λ z. pos size *ℤ z) (low_signed i k) ∙ pos-*ℤ-pos size i

pub product_high : (size i : ℕ) → 1 ≤ size → size < 2 ^ 31 → 2 ^ 31 ≤ i → i < 2 ^ 32 → pos size *ℤ signed i ≡ negsuc (size * suc (4294967295 - i) - 1)
product_high size i one h k l =
    ap (λ z. pos size *ℤ z) (high_signed i k l) ∙ pos-*ℤ-negsuc size (4294967295 - i) ∙ neg_pos (size * suc (4294967295 - i)) (some_product size (4294967295 - i) one)

high_low : (size i : ℕ) → size < 2 ^ 31 → i < 2 ^ 31 → high_product true size i ≡ size * i / 2 ^ 32
high_low size i h k =
    let small = half_product size i h (omega arith) in
    ap (λ z. word_of (int_shr z 32)) (product_low size i h k) ∙ shifted_pos (size * i) (omega (arith, small))

high_high : (size i : ℕ) → 1 ≤ size → size < 2 ^ 31 → 2 ^ 31 ≤ i → i < 2 ^ 32
    → high_product true size i ≡ 2 ^ 32 - 1 - (size * suc (4294967295 - i) - 1) / 2 ^ 32
high_high size i one h k l =
    let q = size * suc (4294967295 - i) in
    let small = half_product size (suc (4294967295 - i)) h (omega arith) in
    ap (λ z. word_of (int_shr (z *ℤ signed i) 32)) (low_signed size h) ∙ ap (λ z. word_of (int_shr z 32)) (product_high size i one h k l)
    ∙ shifted_negsuc (q - 1) (omega (arith, small))

-- ---- an element after an address, exactly

pub exact_ahead : (form : Integer) (size i v : ℕ) → 1 ≤ size → size < 2 ^ 31 → i < 2 ^ 32 → v < 2 ^ 32
    → as_address (pos v +ℤ (pos size *ℤ exact form i)) ≡ (if carries (high_product (reads_signed form) size i) v (applied binary.Add v (applied binary.Mul size i)) then Some (applied binary.Add v (applied binary.Mul size i)) else None)
exact_ahead integer.Int size i v one h k l = by (nat_lt i (2 ^ 31)) refl
  where
    by : (low : Bool) → nat_lt i (2 ^ 31) ≡ low
        → as_address (pos v +ℤ (pos size *ℤ signed i)) ≡ (if carries (high_product true size i) v (applied binary.Add v (applied binary.Mul size i)) then Some (applied binary.Add v (applied binary.Mul size i)) else None)
    by true e =
        let less : i < 2 ^ 31 = grind (arith, nat_tests) in
        ap (λ z. as_address (pos v +ℤ z)) (ap (λ z. pos size *ℤ z) (low_signed i less) ∙ pos-*ℤ-pos size i)
        ∙ fits_ahead v (size * i) l (product_small size i (omega arith) k)
        ∙ ap (λ high. if carries high v (applied binary.Add v (applied binary.Mul size i)) then Some (applied binary.Add v (applied binary.Mul size i)) else None) (sym (high_low size i h less))
    by false e =
        let more : 2 ^ 31 ≤ i = grind (arith, nat_tests) in
        let q = size * suc (4294967295 - i) in
        ap (λ z. as_address (pos v +ℤ z)) (product_high size i one h more k)
        ∙ falls_ahead v q (size * i) size l (half_product size (suc (4294967295 - i)) h (omega arith)) (some_product size (4294967295 - i) one) (negative_part size i more k)
        ∙ ap (λ high. if carries high v (applied binary.Add v (applied binary.Mul size i)) then Some (applied binary.Add v (applied binary.Mul size i)) else None) (sym (high_high size i one h more k))
exact_ahead integer.Unsigned size i v one h k l = ap (λ z. as_address (pos v +ℤ z)) (pos-*ℤ-pos size i) ∙ fits_ahead v (size * i) l (product_small size i (omega arith) k)
exact_ahead integer.Char size i v one h k l = ap (λ z. as_address (pos v +ℤ z)) (pos-*ℤ-pos size i) ∙ fits_ahead v (size * i) l (product_small size i (omega arith) k)

pub exact_back : (form : Integer) (size i v : ℕ) → 1 ≤ size → size < 2 ^ 31 → i < 2 ^ 32 → v < 2 ^ 32
    → as_address (pos v -ℤ (pos size *ℤ exact form i)) ≡ (if borrows (high_product (reads_signed form) size i) v (applied binary.Sub v (applied binary.Mul size i)) then Some (applied binary.Sub v (applied binary.Mul size i)) else None)
exact_back integer.Int size i v one h k l = by (nat_lt i (2 ^ 31)) refl
  where
    by : (low : Bool) → nat_lt i (2 ^ 31) ≡ low
        → as_address (pos v -ℤ (pos size *ℤ signed i)) ≡ (if borrows (high_product true size i) v (applied binary.Sub v (applied binary.Mul size i)) then Some (applied binary.Sub v (applied binary.Mul size i)) else None)
    by true e =
        let less : i < 2 ^ 31 = grind (arith, nat_tests) in
        ap (λ z. as_address (pos v -ℤ z)) (ap (λ z. pos size *ℤ z) (low_signed i less) ∙ pos-*ℤ-pos size i)
        ∙ fits_back v (size * i) l (product_small size i (omega arith) k)
        ∙ ap (λ high. if borrows high v (applied binary.Sub v (applied binary.Mul size i)) then Some (applied binary.Sub v (applied binary.Mul size i)) else None) (sym (high_low size i h less))
    by false e =
        let more : 2 ^ 31 ≤ i = grind (arith, nat_tests) in
        let q = size * suc (4294967295 - i) in
        ap (λ z. as_address (pos v -ℤ z)) (product_high size i one h more k)
        ∙ falls_back v q (size * i) size l (half_product size (suc (4294967295 - i)) h (omega arith)) (some_product size (4294967295 - i) one) (negative_part size i more k)
        ∙ ap (λ high. if borrows high v (applied binary.Sub v (applied binary.Mul size i)) then Some (applied binary.Sub v (applied binary.Mul size i)) else None) (sym (high_high size i one h more k))
exact_back integer.Unsigned size i v one h k l = ap (λ z. as_address (pos v -ℤ z)) (pos-*ℤ-pos size i) ∙ fits_back v (size * i) l (product_small size i (omega arith) k)
exact_back integer.Char size i v one h k l = ap (λ z. as_address (pos v -ℤ z)) (pos-*ℤ-pos size i) ∙ fits_back v (size * i) l (product_small size i (omega arith) k)
