-- What comparisons with zero decide, operations with their operands exchanged, products with 0 and 1, and that upper words of products are words.
use Rattle.std.proofs.Common.{◌≡◌, ℕ, ◌+◌, ◌-◌, ◌*◌, ◌/◌, ◌%◌, ◌^◌, ◌≤◌, ◌<◌, ◌==◌, nat_lt, not, Bool, true, false, sym, ap, subst, arith}
use Rattle.std.specs.Prelude.{ℤ, pos, negsuc, unsigned_abs, ◌*ℤ◌}
use Rattle.std.specs.Int.{int_shr}
use Rattle.std.proofs.lemmas.Int.{ints, unsigned_abs-mul}
use Rattle.std.proofs.lemmas.Bool.Decides.{nat_tests}
use Rattle.std.proofs.lemmas.Nat.{and_comm, or_comm, xor_comm}
use Rattle.std.proofs.Math.Nat.{mul_comm, mul-le-mul_left, mul-le-mul_right}
use Rattle.ckc_base.specs.declared.arithmetic.BinOp.{BinOp}
use Rattle.ckc_base.specs.declared.arithmetic.BinOp.TheVariants as op
use Rattle.ckc_base.specs.Words.{flag, signed, word_of, applied}
use Rattle.ckc_base.specs.Products.{high_product}
use Rattle.ckc_base.proofs.WordValues.{natural_word}
use Rattle.ckc_emit.specs.code.Lines.{is_even}

-- two words are equal if their difference is zero
pub equal_flag : (x y : ℕ) → x < 2 ^ 32 → y < 2 ^ 32 → nat_lt ((x + (2 ^ 32 - y)) % 2 ^ 32) 1 ≡ (x == y)
equal_flag x y h k = grind (arith, nat_tests)

pub unequal_flag : (x y : ℕ) → x < 2 ^ 32 → y < 2 ^ 32 → nat_lt 0 ((x + (2 ^ 32 - y)) % 2 ^ 32) ≡ not (x == y)
unequal_flag x y h k = grind (arith, nat_tests)

pub zero_flag : (x : ℕ) → nat_lt x 1 ≡ (x == 0)
zero_flag x = grind (arith, nat_tests)

pub some_flag : (x : ℕ) → nat_lt 0 x ≡ not (x == 0)
some_flag x = grind (arith, nat_tests)

-- ---- operations that give the same with their operands exchanged

eq_turned : (x y : ℕ) → (x == y) ≡ (y == x)
eq_turned x y = grind (arith, nat_tests)

unlike : {X : Type 0} → false ≡ true → X
unlike e = absurd cc

pub even_turned : (o : BinOp) (x y : ℕ) → is_even o ≡ true → applied o y x ≡ applied o x y
even_turned op.Add x y e = omega arith
even_turned op.Mul x y e = ap (λ n. n % 2 ^ 32) (mul_comm y x)
even_turned op.And x y e = and_comm y x
even_turned op.Or x y e = or_comm y x
even_turned op.Xor x y e = xor_comm y x
even_turned op.Eq x y e = ap flag (eq_turned y x)
even_turned op.Ne x y e = ap (λ b. flag (not b)) (eq_turned y x)
even_turned op.Sub x y e = unlike e
even_turned op.DivS x y e = unlike e
even_turned op.DivU x y e = unlike e
even_turned op.RemS x y e = unlike e
even_turned op.RemU x y e = unlike e
even_turned op.Shl x y e = unlike e
even_turned op.ShrS x y e = unlike e
even_turned op.ShrU x y e = unlike e
even_turned op.LtS x y e = unlike e
even_turned op.LtU x y e = unlike e

-- ---- products with 0 and 1

pub times_none : (x n : ℕ) → n ≡ 0 → 0 ≡ applied op.Mul x n
times_none x n e = subst (λ k. 0 ≡ (x * k) % 2 ^ 32) (sym e) (omega arith)

pub times_one : (x n : ℕ) → x < 2 ^ 32 → n ≡ 1 → x ≡ applied op.Mul x n
times_one x n h e = subst (λ k. x ≡ (x * k) % 2 ^ 32) (sym e) (omega arith)

-- ---- upper words of products

product_below : (m n k : ℕ) → m ≤ k → n ≤ k → m * n ≤ k * k
product_below m n k h i = omega (arith, mul-le-mul_left m i, mul-le-mul_right k h)

high_of : (z : ℤ) → unsigned_abs z < 2 ^ 64 → word_of (int_shr z 32) < 2 ^ 32
high_of (pos n) h = natural_word (n / 2 ^ 32) (omega arith)
high_of (negsuc n) h = omega arith

abs_of_signed : (a : ℕ) → a < 2 ^ 32 → unsigned_abs (signed a) ≤ 2 ^ 31
abs_of_signed a h = grind (arith, ints)

pub high_word : (b : Bool) (x y : ℕ) → x < 2 ^ 32 → y < 2 ^ 32 → high_product b x y < 2 ^ 32
high_word true x y h k =
    high_of (signed x *ℤ signed y) (omega (
      arith,
      unsigned_abs-mul (signed x) (signed y),
      product_below (unsigned_abs (signed x)) (unsigned_abs (signed y)) (2 ^ 31) (abs_of_signed x h) (abs_of_signed y k),
    ))
high_word false x y h k = omega (arith, product_below x y (2 ^ 32 - 1) (omega arith) (omega arith))
