-- What sums, differences, conversions and comparisons of words say of the integers that these stand for.
use Rattle.std.proofs.Common.{◌≡◌, ◌⊎◌, inl, inr, ⊎_elim, refl, sym, ap, ◌∙◌, ℕ, Bool, true, false, ℤ, ◌+ℤ◌, ◌≤ℤ◌, arith}
use Rattle.std.specs.Prelude.{pos, negsuc, ◌-ℤ◌, ◌+◌, ◌-◌, ◌%◌, ◌^◌, ◌<◌, ◌≤◌, ◌==◌, nat_lt, int_lt, not}
use Rattle.std.proofs.lemmas.Int.{ints}
use Rattle.std.proofs.lemmas.Bool.Decides.{nat_tests}
use Rattle.ckc_base.specs.Words.{signed, flag}
use Rattle.ckc_source.specs.declared.expr.Integer.{Integer}
use Rattle.ckc_source.specs.declared.expr.Integer.TheVariants.{Int, Unsigned, Char}
use Rattle.ckc_source.specs.declared.expr.Operation.{Operation}
use Rattle.ckc_source.specs.declared.expr.Operation.TheVariants.{Lt, Le, Gt, Ge, Eq, Ne}
use Rattle.ckc_source.specs.Words.{exact, computed}

-- the numbers of an integer type
abbrev pub InType : Integer → ℤ → Type 0
InType Int z = (negsuc 2147483647 ≤ℤ z) × (z ≤ℤ pos 2147483647)
InType Unsigned z = (pos 0 ≤ℤ z) × (z ≤ℤ pos 4294967295)
InType Char z = (pos 0 ≤ℤ z) × (z ≤ℤ pos 255)

-- A word read in a type is the word, or that less 2^32.
pub exact_is : (t : Integer) (a : ℕ) → a < 2 ^ 32 → (exact t a ≡ pos a) ⊎ (exact t a ≡ pos a -ℤ pos (2 ^ 32))
exact_is Int a h = grind (arith, ints)
exact_is Unsigned a h = inl refl
exact_is Char a h = inl refl

pub signed_is : (n : ℕ) → n < 2 ^ 32 → ((n < 2 ^ 31) × (signed n ≡ pos n)) ⊎ ((2 ^ 31 ≤ n) × (signed n ≡ pos n -ℤ pos (2 ^ 32)))
signed_is n h = grind (arith, ints)

-- A word that is a number of the type or that more 2^32 is read as it.
pub read_back : (t : Integer) (n : ℕ) (z : ℤ) → n < 2 ^ 32 → InType t z → (z ≡ pos n) ⊎ (z ≡ pos n -ℤ pos (2 ^ 32)) → exact t n ≡ z
read_back Int n z h r (inl e) = ⊎_elim
    (λ p. p.1 ∙ sym e)
    (λ p. let a : negsuc 2147483647 ≤ℤ z = r.0 in let b : z ≤ℤ pos 2147483647 = r.1 in let c : 2 ^ 31 ≤ n = p.0 in absurd (omega (arith, ints)))
    (signed_is n h)
read_back Int n z h r (inr e) = ⊎_elim
    (λ p. let a : negsuc 2147483647 ≤ℤ z = r.0 in let c : n < 2 ^ 31 = p.0 in absurd (omega (arith, ints)))
    (λ p. p.1 ∙ sym e)
    (signed_is n h)
read_back Unsigned n z h r (inl e) = sym e
read_back Unsigned n z h r (inr e) = let a = r.0 in absurd (omega (arith, ints))
read_back Char n z h r (inl e) = sym e
read_back Char n z h r (inr e) = let a = r.0 in absurd (omega (arith, ints))

-- a number of a type lies between these
pub in_wide : (t : Integer) (z : ℤ) → InType t z → (negsuc 2147483647 ≤ℤ z) × (z ≤ℤ pos 4294967295)
in_wide Int z r = let a = r.0 in let b = r.1 in (a, omega (arith, ints))
in_wide Unsigned z r = let a = r.0 in let b = r.1 in (omega (arith, ints), b)
in_wide Char z r = let a = r.0 in let b = r.1 in (omega (arith, ints), omega (arith, ints))

-- A sum modulo 2^32 of words that stand for two integers stands for their sum if that is a number of the type.
pub sum_is : (t : Integer) (a b : ℕ) (x y : ℤ) → a < 2 ^ 32 → b < 2 ^ 32 → (x ≡ pos a) ⊎ (x ≡ pos a -ℤ pos (2 ^ 32)) → (y ≡ pos b) ⊎ (y ≡ pos b -ℤ pos (2 ^ 32))
    → InType t (x +ℤ y) → exact t ((a + b) % 2 ^ 32) ≡ x +ℤ y
sum_is t a b x y h k p q r = read_back t ((a + b) % 2 ^ 32) (x +ℤ y) (omega arith) r (by p q)
  where
    by : (x ≡ pos a) ⊎ (x ≡ pos a -ℤ pos (2 ^ 32)) → (y ≡ pos b) ⊎ (y ≡ pos b -ℤ pos (2 ^ 32))
        → (x +ℤ y ≡ pos ((a + b) % 2 ^ 32)) ⊎ (x +ℤ y ≡ pos ((a + b) % 2 ^ 32) -ℤ pos (2 ^ 32))
    by p q = let w = in_wide t (x +ℤ y) r in let low = w.0 in let high = w.1 in grind (arith, ints)

-- The same of a difference.
pub difference_is : (t : Integer) (a b : ℕ) (x y : ℤ) → a < 2 ^ 32 → b < 2 ^ 32 → (x ≡ pos a) ⊎ (x ≡ pos a -ℤ pos (2 ^ 32)) → (y ≡ pos b) ⊎ (y ≡ pos b -ℤ pos (2 ^ 32))
    → InType t (x -ℤ y) → exact t ((a + (2 ^ 32 - b)) % 2 ^ 32) ≡ x -ℤ y
difference_is t a b x y h k p q r = read_back t ((a + (2 ^ 32 - b)) % 2 ^ 32) (x -ℤ y) (omega arith) r (by p q)
  where
    by : (x ≡ pos a) ⊎ (x ≡ pos a -ℤ pos (2 ^ 32)) → (y ≡ pos b) ⊎ (y ≡ pos b -ℤ pos (2 ^ 32))
        → (x -ℤ y ≡ pos ((a + (2 ^ 32 - b)) % 2 ^ 32)) ⊎ (x -ℤ y ≡ pos ((a + (2 ^ 32 - b)) % 2 ^ 32) -ℤ pos (2 ^ 32))
    by p q = let w = in_wide t (x -ℤ y) r in let low = w.0 in let high = w.1 in grind (arith, ints)

-- The lowest byte of a word stands for the same integer if that is a number of `char`.
pub narrowed_is : (n : ℕ) (z : ℤ) → (z ≡ pos n) ⊎ (z ≡ pos n -ℤ pos (2 ^ 32)) → n < 2 ^ 32 → InType Char z → pos (n % 256) ≡ z
narrowed_is n z (inl e) h r = let a : pos 0 ≤ℤ z = r.0 in let b : z ≤ℤ pos 255 = r.1 in omega (arith, ints)
narrowed_is n z (inr e) h r = let a : pos 0 ≤ℤ z = r.0 in absurd (omega (arith, ints))

-- ---- comparisons

-- a word as a comparison reads it, by whether that is a signed one
abbrev pub read : Bool → ℕ → ℤ
read true n = signed n
read false n = pos n

-- what an operation says of two integers if it is true
abbrev pub Says : Operation → ℤ → ℤ → Type 0
Says Lt x y = (x +ℤ pos 1) ≤ℤ y
Says Le x y = x ≤ℤ y
Says Gt x y = (y +ℤ pos 1) ≤ℤ x
Says Ge x y = y ≤ℤ x
Says Eq x y = x ≡ y
Says _ x y = Unit {0}

flag_true : (b : Bool) → (flag b == 0) ≡ false → b ≡ true
flag_true true e = refl
flag_true false e = sym e

flag_false : (b : Bool) → (flag b == 0) ≡ true → b ≡ false
flag_false true e = sym e
flag_false false e = refl

not_true : (b : Bool) → (flag (flag b == 0) == 0) ≡ false → b ≡ false
not_true true e = e
not_true false e = refl

not_false : (b : Bool) → (flag (flag b == 0) == 0) ≡ true → b ≡ true
not_false true e = refl
not_false false e = e

turned : (b : Bool) → (flag (not b) == 0) ≡ true → b ≡ true
turned true e = refl
turned false e = e

int_less : (x y : ℤ) → int_lt x y ≡ true → (x +ℤ pos 1) ≤ℤ y
int_less x y e = grind (arith, ints)

int_not_less : (x y : ℤ) → int_lt x y ≡ false → y ≤ℤ x
int_not_less x y e = grind (arith, ints)

nat_less : (x y : ℕ) → nat_lt x y ≡ true → (pos x +ℤ pos 1) ≤ℤ pos y
nat_less x y e = let h : x < y = grind (arith, nat_tests) in omega (arith, ints)

nat_not_less : (x y : ℕ) → nat_lt x y ≡ false → pos y ≤ℤ pos x
nat_not_less x y e = let h : y ≤ x = grind (arith, nat_tests) in omega (arith, ints)

nat_same : (x y : ℕ) → (x == y) ≡ true → x ≡ y
nat_same x y e = grind (arith, nat_tests)

pub said_true : (o : Operation) (s : Bool) (a b : ℕ) → (computed o s a b == 0) ≡ false → Says o (read s a) (read s b)
said_true Lt true a b e = int_less (signed a) (signed b) (flag_true _ e)
said_true Lt false a b e = nat_less a b (flag_true _ e)
said_true Le true a b e = int_not_less (signed b) (signed a) (not_true _ e)
said_true Le false a b e = nat_not_less b a (not_true _ e)
said_true Gt true a b e = int_less (signed b) (signed a) (flag_true _ e)
said_true Gt false a b e = nat_less b a (flag_true _ e)
said_true Ge true a b e = int_not_less (signed a) (signed b) (not_true _ e)
said_true Ge false a b e = nat_not_less a b (not_true _ e)
said_true Eq s a b e = ap (read s) (nat_same a b (flag_true _ e))
said_true o s a b e = tt

-- the operation that holds if another one does not
abbrev pub contrary : Operation → Operation
contrary Lt = Ge
contrary Le = Gt
contrary Gt = Le
contrary Ge = Lt
contrary Eq = Ne
contrary Ne = Eq
contrary o = o

abbrev pub compares : Operation → Bool
compares Lt = true
compares Le = true
compares Gt = true
compares Ge = true
compares Eq = true
compares Ne = true
compares _ = false

pub said_false : (o : Operation) (s : Bool) (a b : ℕ) → compares o ≡ true → (computed o s a b == 0) ≡ true → Says (contrary o) (read s a) (read s b)
said_false Lt true a b c e = int_not_less (signed a) (signed b) (flag_false _ e)
said_false Lt false a b c e = nat_not_less a b (flag_false _ e)
said_false Le true a b c e = int_less (signed b) (signed a) (not_false _ e)
said_false Le false a b c e = nat_less b a (not_false _ e)
said_false Gt true a b c e = int_not_less (signed b) (signed a) (flag_false _ e)
said_false Gt false a b c e = nat_not_less b a (flag_false _ e)
said_false Ge true a b c e = int_less (signed a) (signed b) (not_false _ e)
said_false Ge false a b c e = nat_less a b (not_false _ e)
said_false Eq s a b c e = tt
said_false Ne s a b c e = ap (read s) (nat_same a b (turned (a == b) e))
said_false o s a b c e = absurd (cc)
