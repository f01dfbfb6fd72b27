-- The lines that are emitted for each piece of placed code, each in front of the lines that follow it. The code is
-- proved against these; what they come to is said of the machine that runs them (specs/Promise.antt).
use Rattle.std.specs.Prelude.{ℕ, ◌+◌, ◌-◌, ◌*◌, ◌%◌, ◌^◌, ◌==◌, ◌&&◌, ◌||◌, not, Bool, true, false, if◌then◌else◌, ℤ, pos, List, ◌∷◌}
use Rattle.std.specs.Int.{w32, trailing_zeros}
use Rattle.ckc_base.specs.declared.arithmetic.BinOp.{BinOp}
use Rattle.ckc_base.specs.declared.arithmetic.BinOp.TheVariants as op
use Rattle.ckc_base.specs.declared.arithmetic.Width.{Width}
use Rattle.ckc_base.specs.declared.arithmetic.Width.TheVariants.{Byte, Word}
use Rattle.ckc_base.specs.declared.places.Pos.{Pos}
use Rattle.ckc_base.specs.declared.runtime_checks.Check.{Check}
use Rattle.ckc_base.specs.Checks.{number_of}
use Rattle.ckc_rv_operations.specs.declared.operations.BranchOp.{BranchOp}
use Rattle.ckc_rv_operations.specs.declared.operations.BranchOp.TheVariants.{Beq, Bne, Blt, Bge, Bltu}
use Rattle.ckc_rv_operations.specs.declared.operations.LoadOp.{LoadOp}
use Rattle.ckc_rv_operations.specs.declared.operations.LoadOp.TheVariants.{Lw, Lbu}
use Rattle.ckc_rv_operations.specs.declared.operations.StoreOp.{StoreOp}
use Rattle.ckc_rv_operations.specs.declared.operations.StoreOp.TheVariants.{Sb, Sw}
use Rattle.ckc_rv_operations.specs.declared.operations.ImmOp.{ImmOp}
use Rattle.ckc_rv_operations.specs.declared.operations.ImmOp.TheVariants.{Addi, Slti, Sltiu, Xori, Ori, Andi, Slli, Srli, Srai}
use Rattle.ckc_rv_operations.specs.declared.operations.RegOp.{RegOp}
use Rattle.ckc_rv_operations.specs.declared.operations.RegOp.TheVariants.{Add, Sub, Sll, Slt, Sltu, Xor, Srl, Sra, Or, And, Mul, Mulh, Mulhu, Div, Divu, Rem, Remu}
use Rattle.ckc_rv.specs.declared.instructions.Instr.{Instr}
use Rattle.ckc_rv.specs.declared.instructions.Instr.TheVariants.{Lui, Branch, Load, Store, Imm, Reg}
use Rattle.ckc_asm_lines.specs.declared.lines.Line.{Line}
use Rattle.ckc_asm_lines.specs.declared.lines.Line.TheVariants.{Plain}
use Rattle.ckc_tac.specs.declared.code.Comparison.{Comparison}
use Rattle.ckc_tac.specs.declared.code.Comparison.TheVariants as comparison
use Rattle.ckc_tac.specs.Operations.{at_offset}
use Rattle.ckc_frame.specs.declared.code.Place.{Place}
use Rattle.ckc_frame.specs.declared.code.Place.TheVariants as place
unfoldable pub use Rattle.ckc_emit_templates.specs.code.Templates.{upper_of, lower_of}
pub use Rattle.ckc_emit_templates.specs.code.Templates.{add_lower_of, immediate_of, load_lower_of, store_lower_of, load_near_of, store_near_of, is_round, both_lines, large_lines, constant_lines, move_lines, offset_lines, far_load_lines, load_lines, far_store_lines, store_lines, ask_lines}
pub use Rattle.ckc_emit_templates.specs.code.Saved.{register_of}
use Rattle.ckc_emit.specs.declared.places.PlacedOperand.{PlacedOperand}
use Rattle.ckc_emit.specs.declared.places.PlacedOperand.TheVariants.{At, Number}
use Rattle.ckc_emit.specs.declared.operations.Form.{Form}
use Rattle.ckc_emit.specs.declared.operations.Form.TheVariants.{Cleared, Left, Zero, Immediate, Registers}

-- ---- stops

abbrev pub constant_count : ℕ → ℕ
constant_count v = if upper_of v == 0 || is_round v then 1 else 2

abbrev pub stop_lines : Check → Pos → List Line → List Line
stop_lines check at rest =
    constant_lines 10 (number_of check)
    (constant_lines 11 at.line (constant_lines 12 at.col (ask_lines 3 rest)))

-- the branch that is taken if a comparison holds
abbrev pub holding : Comparison → BranchOp
holding comparison.LtS = Blt
holding comparison.LtU = Bltu
holding comparison.Eq = Beq
holding comparison.Ne = Bne

-- a branch of two registers over itself and the stop after it
abbrev pub over_stop_of : BranchOp → ℕ → ℕ → Pos → Instr
over_stop_of op rs1 rs2 at =
    Branch op rs1 rs2 (pos ((constant_count at.line + constant_count at.col + 4) * 4))

-- stops unless the branch is taken
abbrev pub check_lines : BranchOp → ℕ → ℕ → Check → Pos → List Line → List Line
check_lines op rs1 rs2 check at rest =
    Plain (over_stop_of op rs1 rs2 at) ∷ stop_lines check at rest

-- ---- places

-- where the frame keeps a place
abbrev pub offset_of : Place → ℕ
offset_of (place.Reg k) = k * 4 + 16
offset_of (place.Slot k) = k * 4 + 80

-- the register that has the value of a place, if a scratch register has that of a slot
abbrev pub source_of : Place → ℕ → ℕ
source_of (place.Reg k) scratch = register_of k
source_of (place.Slot k) scratch = scratch

abbrev pub read_lines : Place → ℕ → List Line → List Line
read_lines (place.Reg k) scratch rest = rest
read_lines (place.Slot k) scratch rest = load_lines scratch 2 (k * 4 + 80) rest

abbrev pub write_lines : Place → ℕ → List Line → List Line
write_lines (place.Reg k) scratch rest = rest
write_lines (place.Slot k) scratch rest = store_lines scratch 2 (k * 4 + 80) rest

-- a place gets the value of a register
abbrev pub settle_lines : Place → ℕ → List Line → List Line
settle_lines (place.Reg k) rs rest = move_lines (register_of k) rs rest
settle_lines (place.Slot k) rs rest = store_lines rs 2 (k * 4 + 80) rest

-- a register gets the value of a place
abbrev pub fetch_lines : ℕ → Place → List Line → List Line
fetch_lines rd (place.Reg k) rest = move_lines rd (register_of k) rest
fetch_lines rd (place.Slot k) rest = load_lines rd 2 (k * 4 + 80) rest

-- ---- operands

-- the register that has the value of an operand, if a scratch register has that of a slot or a number; 0 is in x0
abbrev pub register_with : PlacedOperand → ℕ → ℕ
register_with (At p) scratch = source_of p scratch
register_with (Number n) scratch = if n == 0 then 0 else scratch

abbrev pub operand_lines : PlacedOperand → ℕ → List Line → List Line
operand_lines (At p) scratch rest = read_lines p scratch rest
operand_lines (Number n) scratch rest = if n == 0 then rest else constant_lines scratch n rest

-- a register gets the value of an operand
abbrev pub take_lines : ℕ → PlacedOperand → List Line → List Line
take_lines rd (At p) rest = fetch_lines rd p rest
take_lines rd (Number n) rest = constant_lines rd n rest

-- ---- operations

abbrev pub const_lines : Place → ℕ → List Line → List Line
const_lines t v rest = constant_lines (source_of t 5) v (write_lines t 5 rest)

abbrev pub copy_lines : Place → Place → List Line → List Line
copy_lines t (place.Reg k) rest = settle_lines t (register_of k) rest
copy_lines t (place.Slot k) rest = load_lines (source_of t 5) 2 (k * 4 + 80) (write_lines t 5 rest)

-- a place gets the value of an operand
abbrev pub value_lines : Place → PlacedOperand → List Line → List Line
value_lines t (At p) rest = copy_lines t p rest
value_lines t (Number n) rest = const_lines t n rest

-- the instruction of an operation that has one
abbrev pub operation_of : BinOp → RegOp
operation_of op.Add = Add
operation_of op.Sub = Sub
operation_of op.Mul = Mul
operation_of op.DivS = Div
operation_of op.DivU = Divu
operation_of op.RemS = Rem
operation_of op.RemU = Remu
operation_of op.And = And
operation_of op.Or = Or
operation_of op.Xor = Xor
operation_of op.Shl = Sll
operation_of op.ShrS = Sra
operation_of op.ShrU = Srl
operation_of op.LtS = Slt
operation_of op.LtU = Sltu
operation_of op.Eq = Sub
operation_of op.Ne = Sub

abbrev pub apply_lines : BinOp → ℕ → ℕ → ℕ → List Line → List Line
apply_lines op.Eq rd a b rest = Plain (Reg Sub rd a b) ∷ Plain (Imm Sltiu rd rd (pos 1)) ∷ rest
apply_lines op.Ne rd a b rest = Plain (Reg Sub rd a b) ∷ Plain (Reg Sltu rd 0 rd) ∷ rest
apply_lines o rd a b rest = Plain (Reg (operation_of o) rd a b) ∷ rest

-- the number that is added in place of a difference
abbrev pub negated : ℕ → ℕ
negated n = (2 ^ 32 - n) % 2 ^ 32

-- a number as an immediate, if it fits
abbrev pub near_form : ImmOp → ℕ → Form
near_form i n = if upper_of n == 0 then Immediate i n else Registers

-- how many zeros a number other than 0 ends in
abbrev pub zeros_of : ℕ → ℕ
zeros_of n = trailing_zeros w32 n % 32

-- a product with a power of two is a shift
abbrev pub power_form : ℕ → Form
power_form n = if n == 2 ^ zeros_of n then Immediate Slli (zeros_of n) else Registers

abbrev pub product_form : ℕ → Form
product_form n = if n == 0 then Cleared else (if n == 1 then Left else power_form n)

-- How an operation with a number on its right is done. Shifts are by the number modulo 32, and a comparison with zero
-- needs no difference.
abbrev pub number_form : BinOp → ℕ → Form
number_form op.Add n = near_form Addi n
number_form op.Sub n = near_form Addi (negated n)
number_form op.And n = near_form Andi n
number_form op.Or n = near_form Ori n
number_form op.Xor n = near_form Xori n
number_form op.LtS n = near_form Slti n
number_form op.LtU n = near_form Sltiu n
number_form op.Shl n = Immediate Slli (n % 32)
number_form op.ShrS n = Immediate Srai (n % 32)
number_form op.ShrU n = Immediate Srli (n % 32)
number_form op.Eq n = if n == 0 then Zero else near_form Addi (negated n)
number_form op.Ne n = if n == 0 then Zero else near_form Addi (negated n)
number_form op.Mul n = product_form n
number_form o n = Registers

abbrev pub form_of : BinOp → PlacedOperand → Form
form_of o (At p) = Registers
form_of o (Number n) = number_form o n

-- no second register is read
abbrev pub is_short : Form → Bool
is_short Registers = false
is_short form = true

-- the operation gives the same with its operands exchanged
abbrev pub is_even : BinOp → Bool
is_even op.Add = true
is_even op.Mul = true
is_even op.And = true
is_even op.Or = true
is_even op.Xor = true
is_even op.Eq = true
is_even op.Ne = true
is_even o = false

-- the operands are exchanged if the left one alone has a short form on the right
abbrev pub is_exchanged : BinOp → PlacedOperand → PlacedOperand → Bool
is_exchanged o a b = is_even o && is_short (form_of o a) && not (is_short (form_of o b))

-- the end of a test for equality: whether a difference is zero, or not
abbrev pub ending_lines : BinOp → ℕ → ℕ → List Line → List Line
ending_lines op.Eq rd rs rest = Plain (Imm Sltiu rd rs (pos 1)) ∷ rest
ending_lines op.Ne rd rs rest = Plain (Reg Sltu rd 0 rs) ∷ rest
ending_lines o rd rs rest = rest

-- a comparison with zero
abbrev pub zero_lines : BinOp → Place → PlacedOperand → List Line → List Line
zero_lines o t a rest =
    operand_lines a 5 (ending_lines o (source_of t 5) (register_with a 5) (write_lines t 5 rest))

-- an operation with an immediate
abbrev pub immediate_lines : ImmOp → ℕ → BinOp → Place → PlacedOperand → List Line → List Line
immediate_lines i n o t a rest =
    operand_lines a 5
    (Plain (immediate_of i (source_of t 5) (register_with a 5) n) ∷
    ending_lines o (source_of t 5) (source_of t 5) (write_lines t 5 rest))

-- an operation on two registers
abbrev pub register_lines : BinOp → Place → PlacedOperand → PlacedOperand → List Line → List Line
register_lines o t a b rest =
    operand_lines a 5
    (operand_lines b 6
    (apply_lines o (source_of t 5) (register_with a 5) (register_with b 6)
    (write_lines t 5 rest)))

-- an operation with an operand on its right that has a form
abbrev pub form_lines : Form → BinOp → Place → PlacedOperand → PlacedOperand → List Line → List Line
form_lines Cleared o t a b rest = const_lines t 0 rest
form_lines Left o t a b rest = value_lines t a rest
form_lines Zero o t a b rest = zero_lines o t a rest
form_lines (Immediate i n) o t a b rest = immediate_lines i n o t a rest
form_lines Registers o t a b rest = register_lines o t a b rest

abbrev pub bin_lines : BinOp → Place → PlacedOperand → PlacedOperand → List Line → List Line
bin_lines o t a b rest =
    if is_exchanged o a b then form_lines (form_of o a) o t b a rest
    else form_lines (form_of o b) o t a b rest

abbrev pub high_op : Bool → RegOp
high_op true = Mulh
high_op false = Mulhu

abbrev pub high_lines : Bool → Place → PlacedOperand → PlacedOperand → List Line → List Line
high_lines is_signed t a b rest =
    operand_lines a 5 (operand_lines b 6
    (Plain (Reg (high_op is_signed) (source_of t 5) (register_with a 5) (register_with b 6)) ∷
    write_lines t 5 rest))

abbrev pub load_op : Width → LoadOp
load_op Byte = Lbu
load_op Word = Lw

abbrev pub store_op : Width → StoreOp
store_op Byte = Sb
store_op Word = Sw

-- ---- addresses with an offset

-- the upper bits of a number are set, if there are some
abbrev pub upper_lines : ℕ → ℕ → List Line → List Line
upper_lines v scratch rest =
    if upper_of v == 0 then rest else Plain (Lui scratch (upper_of v)) ∷ rest

abbrev pub address_lines : PlacedOperand → (offset scratch : ℕ) → List Line → List Line
address_lines (At p) offset scratch rest = read_lines p scratch rest
address_lines (Number n) offset scratch rest = upper_lines (at_offset n offset) scratch rest

-- the register from which an instruction goes on by `rest_of`
abbrev pub base_with : PlacedOperand → (offset scratch : ℕ) → ℕ
base_with (At p) offset scratch = source_of p scratch
base_with (Number n) offset scratch = if upper_of (at_offset n offset) == 0 then 0 else scratch

abbrev pub rest_of : PlacedOperand → (offset : ℕ) → ℤ
rest_of (At p) offset = lower_of offset
rest_of (Number n) offset = lower_of (at_offset n offset)

abbrev pub data_load_lines : Width → Place → PlacedOperand → (offset : ℕ) → List Line → List Line
data_load_lines width t a offset rest =
    address_lines a offset 5
    (Plain (Load (load_op width) (source_of t 5) (base_with a offset 5) (rest_of a offset)) ∷
    write_lines t 5 rest)

abbrev pub data_store_lines : Width → PlacedOperand → (offset : ℕ) → PlacedOperand → List Line
    → List Line
data_store_lines width a offset b rest =
    address_lines a offset 5
    (operand_lines b 6
    (Plain (Store (store_op width) (base_with a offset 5) (register_with b 6) (rest_of a offset)) ∷
    rest))

abbrev pub test_lines : Check → Pos → Comparison → PlacedOperand → PlacedOperand → List Line
    → List Line
test_lines check at c a b rest =
    operand_lines a 5
    (operand_lines b 6
    (check_lines (holding c) (register_with a 5) (register_with b 6) check at rest))

abbrev pub get_lines : Place → List Line → List Line
get_lines t rest = ask_lines 2 (settle_lines t 10 rest)

abbrev pub put_lines : PlacedOperand → List Line → List Line
put_lines a rest = take_lines 10 a (ask_lines 1 rest)

-- ---- an Alloc of x5 elements of x6 bytes: x10 is the place of the block, or 0

abbrev pub tests_lines : List Line → List Line
tests_lines rest =
    Plain (Imm Addi 10 0 (pos 0)) ∷ Plain (Branch Bge 0 5 (pos 48)) ∷
    Plain (Branch Bltu 1 4 (pos 44))
    ∷ Plain (Reg Sub 1 1 4) ∷ Plain (Reg Divu 1 1 6) ∷ Plain (Branch Bltu 1 5 (pos 32)) ∷ rest

abbrev pub room_lines : List Line → List Line
room_lines rest =
    Plain (Lui 3 0x2000) ∷ Plain (Load Lw 4 3 (pos 0)) ∷ Plain (Lui 1 0x3000) ∷ tests_lines rest

abbrev pub rounded_lines : List Line → List Line
rounded_lines rest =
    Plain (Imm Srli 5 5 (pos 3)) ∷ Plain (Imm Slli 5 5 (pos 3)) ∷
    Plain (Store Sw 3 5 (pos 0)) ∷ rest

abbrev pub claim_lines : List Line → List Line
claim_lines rest =
    Plain (Imm Addi 10 4 (pos 0)) ∷ Plain (Reg Mul 5 5 6) ∷ Plain (Reg Add 5 5 4) ∷
    Plain (Imm Addi 5 5 (pos 15)) ∷ rounded_lines rest

abbrev pub alloc_lines : Place → PlacedOperand → ℕ → List Line → List Line
alloc_lines t a size rest =
    take_lines 5 a (constant_lines 6 size (room_lines (claim_lines (settle_lines t 10 rest))))
