-- The values of registers at a place of a block, as terms. The operations before the place are given last first.
use Rattle.std.specs.Prelude.{ℕ, ◌==◌, Bool, false, if◌then◌else◌, List, [], ◌∷◌, length, Option, Some, None}
use Rattle.ckc_base.specs.declared.arithmetic.BinOp.{BinOp}
use Rattle.ckc_base.specs.Words.{applied}
use Rattle.ckc_base.specs.Products.{high_product}
use Rattle.ckc_tac.specs.declared.code.Operand.{Operand}
use Rattle.ckc_tac.specs.declared.code.Operand.TheVariants.{Register, Number}
use Rattle.ckc_tac.specs.declared.code.TacOp.{TacOp}
use Rattle.ckc_tac.specs.declared.code.TacOp.TheVariants.{Const, Copy, Bin, High}
use Rattle.ckc_flow.specs.Live.{target_of}

-- The value of a register: the one that it has at the beginning of the block, a number, what an operation makes of two
-- values, the upper word of their product, or what the operation after so many others of the block gives.
pub data Term : Type 0 where
  Entry : (register : ℕ) → Term
  Known : (number : ℕ) → Term
  Combined : (op : BinOp) (a b : Term) → Term
  Upper : (is_signed : Bool) (a b : Term) → Term
  New : (place : ℕ) → Term

-- the number that a value is
abbrev pub number_in : Term → Option ℕ
number_in (Known n) = Some n
number_in (Entry r) = None
number_in (Combined op a b) = None
number_in (Upper is_signed a b) = None
number_in (New place) = None

-- what is computed of two numbers, if both are known
abbrev pub computed : (ℕ → ℕ → ℕ) → Option ℕ → Option ℕ → Option ℕ
computed f (Some x) (Some y) = Some (f x y)
computed f (Some x) None = None
computed f None b = None

-- the number, or else the other value
abbrev pub known_or : Option ℕ → Term → Term
known_or (Some n) value = Known n
known_or None value = value

-- the value of an operand, of those of registers
abbrev pub term_of : (ℕ → Term) → Operand → Term
term_of values (Register r) = values r
term_of values (Number n) = Known n

abbrev pub combined : BinOp → Term → Term → Term
combined op a b = known_or (computed (applied op) (number_in a) (number_in b)) (Combined op a b)

abbrev pub upper : (is_signed : Bool) → Term → Term → Term
upper is_signed a b = known_or (computed (high_product is_signed) (number_in a) (number_in b)) (Upper is_signed a b)

-- what an operation gives its target, if registers have these values and so many operations of the block come before it
abbrev pub given : (ℕ → Term) → ℕ → TacOp → Term
given values place (Const t n) = Known n
given values place (Copy t a) = values a
given values place (Bin op t a b) = combined op (term_of values a) (term_of values b)
given values place (High is_signed t a b) = upper is_signed (term_of values a) (term_of values b)
given values place op = New place

abbrev pub is_target : Option ℕ → ℕ → Bool
is_target (Some t) r = t == r
is_target None r = false

-- the value of a register after these operations: the last one that writes it gives it
abbrev pub value_after : List TacOp → ℕ → Term
value_after [] r = Entry r
value_after (op ∷ before) r =
    if is_target (target_of op) r then given (value_after before) (length before) op else value_after before r

-- the value of an operand after these operations
abbrev pub operand_after : List TacOp → Operand → Term
operand_after before a = term_of (value_after before) a
