-- Words of 32 bits, their signed view, and the operations on them.
use Rattle.std.specs.Prelude.{ℕ, ◌+◌, ◌-◌, ◌*◌, ◌/◌, ◌%◌, ◌^◌, ◌==◌, nat_lt, int_lt, Bool, not, if◌then◌else◌, ℤ, int_div, int_rem, bit_and, bit_or, bit_xor}
use Rattle.std.specs.Int.{w32, cast_signed, cast_unsigned, int_shr}
use Rattle.ckc_base.specs.declared.arithmetic.BinOp.{BinOp}
use Rattle.ckc_base.specs.declared.arithmetic.BinOp.TheVariants.{Add, Sub, Mul, DivS, DivU, RemS, RemU, And, Or, Xor, Shl, ShrS, ShrU, LtS, LtU, Eq, Ne}

-- A word is a number below 2 ^ 32. Its signed view is the number itself below 2 ^ 31, and from there on the
-- number less 2 ^ 32.
abbrev pub signed : ℕ → ℤ
signed w = cast_signed w32 w

-- the word that has the signed view, modulo 2 ^ 32
abbrev pub word_of : ℤ → ℕ
word_of z = cast_unsigned w32 z

-- a test as a word
abbrev pub flag : Bool → ℕ
flag b = if b then 1 else 0

-- The operations on words (RISC-V unprivileged ISA manual, RV32I and "M"): sums, differences and products
-- modulo 2 ^ 32, division towards zero with the manual's values at a divisor of zero, shifts by the count
-- modulo 32, comparisons as 1 or 0.
abbrev pub applied : BinOp → ℕ → ℕ → ℕ
applied Add a b = (a + b) % 2 ^ 32
applied Sub a b = (a + (2 ^ 32 - b)) % 2 ^ 32
applied Mul a b = (a * b) % 2 ^ 32
applied DivS a b = if b == 0 then 2 ^ 32 - 1 else word_of (int_div (signed a) (signed b))
applied DivU a b = if b == 0 then 2 ^ 32 - 1 else a / b
applied RemS a b = if b == 0 then a else word_of (int_rem (signed a) (signed b))
applied RemU a b = if b == 0 then a else a % b
applied And a b = bit_and a b
applied Or a b = bit_or a b
applied Xor a b = bit_xor a b
applied Shl a b = (a * 2 ^ (b % 32)) % 2 ^ 32
applied ShrS a b = word_of (int_shr (signed a) (b % 32))
applied ShrU a b = a / 2 ^ (b % 32)
applied LtS a b = flag (int_lt (signed a) (signed b))
applied LtU a b = flag (nat_lt a b)
applied Eq a b = flag (a == b)
applied Ne a b = flag (not (a == b))
