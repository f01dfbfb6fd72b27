-- Arithmetic on integers and addresses (ISO C11, 6.5.5 to 6.5.12), as words.
use Rattle.std.specs.Prelude.{ℕ, ◌^◌, nat_lt, Bool, true, false, if◌then◌else◌, ℤ, pos, negsuc, ◌+ℤ◌, ◌*ℤ◌, Option, Some, None}
use Rattle.ckc_base.specs.declared.arithmetic.BinOp.{BinOp}
use Rattle.ckc_base.specs.declared.arithmetic.BinOp.TheVariants as binary
use Rattle.ckc_base.specs.declared.arithmetic.Width.{Width}
use Rattle.ckc_base.specs.declared.arithmetic.Width.TheVariants.{Byte, Word}
use Rattle.ckc_base.specs.Words.{signed, applied}
use Rattle.ckc_source.specs.declared.expr.Integer.{Integer}
use Rattle.ckc_source.specs.declared.expr.Integer.TheVariants.{Int, Unsigned, Char}
use Rattle.ckc_source.specs.declared.expr.Operation.{Operation}
use Rattle.ckc_source.specs.declared.expr.Operation.TheVariants.{Add, Sub, Mul, Div, Rem, And, Or, Xor, Shl, Shr, Lt, Le, Gt, Ge, Eq, Ne}

-- the integer that a word of the type stands for
abbrev pub exact : Integer → ℕ → ℤ
exact Int word = signed word
exact Unsigned word = pos word
exact Char word = pos word

-- whether an integer of the type takes a word, or a byte as `char` does
abbrev pub width_of : Integer → Width
width_of Int = Word
width_of Unsigned = Word
width_of Char = Byte

-- an integer as an address, if it is one
abbrev pub as_address : ℤ → Option ℕ
as_address (pos n) = if nat_lt n (2 ^ 32) then Some n else None
as_address (negsuc n) = None

-- so many elements of a size after an address, exactly
abbrev pub elements_behind : ℕ → ℕ → ℤ → ℤ
elements_behind a size count = pos a +ℤ (pos size *ℤ count)

-- 1 if a word is not zero, and else 0
abbrev pub truth : ℕ → ℕ
truth word = applied binary.Ne word 0

-- the operation on words, by whether the operands are signed
abbrev pub operator : Operation → Bool → BinOp
operator Add is_signed = binary.Add
operator Sub is_signed = binary.Sub
operator Mul is_signed = binary.Mul
operator Div true = binary.DivS
operator Div false = binary.DivU
operator Rem true = binary.RemS
operator Rem false = binary.RemU
operator And is_signed = binary.And
operator Or is_signed = binary.Or
operator Xor is_signed = binary.Xor
operator Shl is_signed = binary.Shl
operator Shr true = binary.ShrS
operator Shr false = binary.ShrU
operator Eq is_signed = binary.Eq
operator Ne is_signed = binary.Ne
operator _ true = binary.LtS
operator _ false = binary.LtU

-- what an operation gives; a > b is b < a, and a <= b holds if a > b does not
abbrev pub computed : Operation → Bool → ℕ → ℕ → ℕ
computed Le is_signed a b = applied binary.Eq (applied (operator Lt is_signed) b a) 0
computed Gt is_signed a b = applied (operator Lt is_signed) b a
computed Ge is_signed a b = applied binary.Eq (applied (operator Lt is_signed) a b) 0
computed operation is_signed a b = applied (operator operation is_signed) a b

-- whether an operation is a division or a remainder
abbrev pub divides : Operation → Bool
divides Div = true
divides Rem = true
divides _ = false
