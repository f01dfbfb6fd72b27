-- Operations on two words: their numbers, what they give, and the values that they make.
use Rattle.std.specs.Prelude.{ℕ, true, false}
use Rattle.ckc_base.specs.declared.arithmetic.BinOp.{BinOp}
use Rattle.ckc_base.specs.declared.arithmetic.BinOp.TheVariants.{Add, Sub, Mul, DivS, DivU, RemS, RemU, And, Or, Xor, Shl, ShrS, ShrU, LtS, LtU, Eq, Ne}
use Rattle.ckc_base.specs.Words.{applied}
use Rattle.ckc_base.specs.Products.{high_product}
use Rattle.ckc_passes.specs.Values.{Term, Combined, Upper, combined, upper}
use Rattle.ckc_passes_redundant.specs.declared.operations.Operation.{Operation}
use Rattle.ckc_passes_redundant.specs.declared.operations.Operation.TheVariants.{Whole, Half}

abbrev pub binary_number : BinOp → ℕ
binary_number Add = 0
binary_number Sub = 1
binary_number Mul = 2
binary_number DivS = 3
binary_number DivU = 4
binary_number RemS = 5
binary_number RemU = 6
binary_number And = 7
binary_number Or = 8
binary_number Xor = 9
binary_number Shl = 10
binary_number ShrS = 11
binary_number ShrU = 12
binary_number LtS = 13
binary_number LtU = 14
binary_number Eq = 15
binary_number Ne = 16

abbrev pub operation_number : Operation → ℕ
operation_number (Whole op) = binary_number op
operation_number (Half false) = 17
operation_number (Half true) = 18

abbrev pub result_by : Operation → ℕ → ℕ → ℕ
result_by (Whole op) = applied op
result_by (Half is_signed) = high_product is_signed

-- the term of an operation and two values
abbrev pub node_by : Operation → Term → Term → Term
node_by (Whole op) a b = Combined op a b
node_by (Half is_signed) a b = Upper is_signed a b

-- the value that an operation makes of two values
abbrev pub value_by : Operation → Term → Term → Term
value_by (Whole op) a b = combined op a b
value_by (Half is_signed) a b = upper is_signed a b
