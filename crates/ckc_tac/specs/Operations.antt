-- What single operations of three-address code do, over registers that are read by a function.
use Rattle.std.specs.Prelude.{ℕ, ◌+◌, ◌%◌, ◌^◌, ◌==◌, if◌then◌else◌, List, [], ◌∷◌, Option, Some, None, option_and_then}
use Rattle.std.specs.Option.{option_map}
use Rattle.ckc_base.specs.declared.arithmetic.BinOp.{BinOp}
use Rattle.ckc_base.specs.declared.arithmetic.BinOp.TheVariants as binary
use Rattle.ckc_base.specs.Words.{applied}
use Rattle.ckc_base.specs.Products.{high_product}
use Rattle.ckc_base.specs.Memory.{value_at}
use Rattle.ckc_base.specs.Actions.{World, Outcome, Gives, Lost, with_value, stores, checks, gets, puts, allocates}
use Rattle.ckc_base.specs.Activations.{Values}
use Rattle.ckc_tac.specs.declared.code.Comparison.{Comparison}
use Rattle.ckc_tac.specs.declared.code.Comparison.TheVariants.{LtS, LtU, Eq, Ne}
use Rattle.ckc_tac.specs.declared.code.Operand.{Operand}
use Rattle.ckc_tac.specs.declared.code.Operand.TheVariants.{Register, Number}
use Rattle.ckc_tac.specs.declared.code.TacOp.{TacOp}
use Rattle.ckc_tac.specs.declared.code.TacOp.TheVariants.{Const, Copy, Bin, High, Load, Store, Check, Call, Get, Put, Alloc}

-- the value of an operand; a register may have none
abbrev pub value_in : Values → Operand → Option ℕ
value_in registers (Register r) = registers r
value_in registers (Number n) = Some n

-- a comparison as an operation, whose value is 1 or 0
abbrev pub operation_of : Comparison → BinOp
operation_of LtS = binary.LtS
operation_of LtU = binary.LtU
operation_of Eq = binary.Eq
operation_of Ne = binary.Ne

-- if both operands have a value: 1 if a comparison holds, else 0
abbrev pub compared : Comparison → Option ℕ → Option ℕ → Option ℕ
compared comparison (Some x) (Some y) = Some (applied (operation_of comparison) x y)
compared comparison (Some x) None = None
compared comparison None b = None

-- the address so many bytes past another one, modulo 2 ^ 32
abbrev pub at_offset : ℕ → ℕ → ℕ
at_offset p n = if n == 0 then p else (p + n) % 2 ^ 32

-- what an operation that is no call comes to; one that reads a register without a value is lost
abbrev pub outcome_of : Values → World → TacOp → Outcome
outcome_of registers world (Const t n) = Gives [] t n world
outcome_of registers world (Copy t a) = with_value (registers a) (λ x. Gives [] t x world)
outcome_of registers world (Bin op t a b) =
    with_value (value_in registers a) (λ x. with_value (value_in registers b) (λ y. Gives [] t (applied op x y) world))
outcome_of registers world (High is_signed t a b) =
    with_value (value_in registers a) (λ x. with_value (value_in registers b) (λ y. Gives [] t (high_product is_signed x y) world))
outcome_of registers world (Load width t a n) =
    with_value (value_in registers a) (λ p. with_value (value_at width world.memory (at_offset p n)) (λ x. Gives [] t x world))
outcome_of registers world (Store width a n b) =
    with_value (value_in registers a) (λ p. with_value (value_in registers b) (stores world width (at_offset p n)))
outcome_of registers world (Check check at comparison a b) =
    with_value (compared comparison (value_in registers a) (value_in registers b)) (checks world check at)
outcome_of registers world (Call target callee arguments at) = Lost
outcome_of registers world (Get t) = gets world t
outcome_of registers world (Put a) = with_value (value_in registers a) (puts world)
outcome_of registers world (Alloc t a size) = with_value (value_in registers a) (λ n. allocates world t n size)

-- the values of registers, if each has one
abbrev pub values_in : Values → List ℕ → Option (List ℕ)
values_in registers [] = Some []
values_in registers (r ∷ rs) =
    option_and_then (λ v. option_map (λ vs. v ∷ vs) (values_in registers rs)) (registers r)
