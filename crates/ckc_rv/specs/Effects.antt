-- What each instruction does (RISC-V unprivileged ISA manual, RV32I and "M"): the register that it writes and the
-- next pc, or the access to memory.
use Rattle.std.specs.Prelude.{ℕ, ◌-◌, ◌*◌, ◌%◌, ◌^◌, ◌==◌, not, nat_lt, int_lt, Bool, true, false, if◌then◌else◌, ℤ, pos, ◌*ℤ◌, List, slice_index}
use Rattle.std.specs.Int.{w8, w16, cast_signed, int_shr}
use Rattle.ckc_base.specs.Words.{applied, signed, word_of}
use Rattle.ckc_base.specs.Products.{high_product}
use Rattle.ckc_base.specs.declared.arithmetic.BinOp.TheVariants as word
use Rattle.ckc_rv_operations.specs.declared.operations.BranchOp.{BranchOp}
use Rattle.ckc_rv_operations.specs.declared.operations.BranchOp.TheVariants.{Beq, Bne, Blt, Bge, Bltu, Bgeu}
use Rattle.ckc_rv_operations.specs.declared.operations.LoadOp.{LoadOp}
use Rattle.ckc_rv_operations.specs.declared.operations.LoadOp.TheVariants.{Lb, Lh, Lw, Lbu, Lhu}
use Rattle.ckc_rv_operations.specs.declared.operations.StoreOp.{StoreOp}
use Rattle.ckc_rv_operations.specs.declared.operations.StoreOp.TheVariants.{Sb, Sh, Sw}
use Rattle.ckc_rv_operations.specs.declared.operations.ImmOp.{ImmOp}
use Rattle.ckc_rv_operations.specs.declared.operations.ImmOp.TheVariants.{Addi, Slti, Sltiu, Xori, Ori, Andi, Slli, Srli, Srai}
use Rattle.ckc_rv_operations.specs.declared.operations.RegOp.{RegOp}
use Rattle.ckc_rv_operations.specs.declared.operations.RegOp.TheVariants.{Add, Sub, Sll, Slt, Sltu, Xor, Srl, Sra, Or, And, Mul, Mulh, Mulhsu, Mulhu, Div, Divu, Rem, Remu}
use Rattle.ckc_rv.specs.declared.instructions.Instr.{Instr}
use Rattle.ckc_rv.specs.declared.instructions.Instr.TheVariants.{Lui, Auipc, Jal, Jalr, Branch, Load, Store, Imm, Reg, Fence, Ecall, Ebreak}
use Rattle.ckc_rv.specs.declared.registers.Outcome.{Outcome}
use Rattle.ckc_rv.specs.declared.registers.Outcome.TheVariants.{Next, Load as Loads, Store as Stores, Call, Break, BadTarget}

-- the upper half of the 64-bit product
abbrev pub upper_half : ℤ → ℕ
upper_half product = word_of (int_shr product 32)

-- The value of an operation on two registers: that of the operation on words, and the upper words of products.
abbrev pub reg_value : RegOp → ℕ → ℕ → ℕ
reg_value Add a b = applied word.Add a b
reg_value Sub a b = applied word.Sub a b
reg_value Sll a b = applied word.Shl a b
reg_value Slt a b = applied word.LtS a b
reg_value Sltu a b = applied word.LtU a b
reg_value Xor a b = applied word.Xor a b
reg_value Srl a b = applied word.ShrU a b
reg_value Sra a b = applied word.ShrS a b
reg_value Or a b = applied word.Or a b
reg_value And a b = applied word.And a b
reg_value Mul a b = applied word.Mul a b
reg_value Mulh a b = high_product true a b
reg_value Mulhsu a b = upper_half (signed a *ℤ pos b)
reg_value Mulhu a b = high_product false a b
reg_value Div a b = applied word.DivS a b
reg_value Divu a b = applied word.DivU a b
reg_value Rem a b = applied word.RemS a b
reg_value Remu a b = applied word.RemU a b

-- An operation with an immediate is one on two registers, of which the second holds the immediate.
abbrev pub reg_form : ImmOp → RegOp
reg_form Addi = Add
reg_form Slti = Slt
reg_form Sltiu = Sltu
reg_form Xori = Xor
reg_form Ori = Or
reg_form Andi = And
reg_form Slli = Sll
reg_form Srli = Srl
reg_form Srai = Sra

-- whether a branch is taken
abbrev pub is_taken : BranchOp → ℕ → ℕ → Bool
is_taken Beq a b = a == b
is_taken Bne a b = not (a == b)
is_taken Blt a b = int_lt (signed a) (signed b)
is_taken Bge a b = not (int_lt (signed a) (signed b))
is_taken Bltu a b = nat_lt a b
is_taken Bgeu a b = not (nat_lt a b)

-- an address and a signed offset, modulo 2 ^ 32
abbrev pub moved : ℕ → ℤ → ℕ
moved address offset = applied word.Add address (word_of offset)

-- the address of the instruction after that at pc
abbrev pub following : ℕ → ℕ
following pc = moved pc (pos 4)

-- a value for rd, then the following instruction
abbrev pub writes : ℕ → ℕ → ℕ → Outcome
writes rd value pc = Next rd value (following pc)

-- a value for rd, then the instruction at a target, which must be a multiple of 4
abbrev pub jumps : ℕ → ℕ → ℕ → Outcome
jumps rd value target = if target % 4 == 0 then Next rd value target else BadTarget

-- the effect of an instruction at pc, with the values of the 32 registers
abbrev pub effect_of : Instr → ℕ → List ℕ → Outcome
effect_of (Lui rd upper) pc x = writes rd (upper * 2 ^ 12) pc
effect_of (Auipc rd upper) pc x = writes rd (applied word.Add pc (upper * 2 ^ 12)) pc
effect_of (Jal rd offset) pc x = jumps rd (following pc) (moved pc offset)
effect_of (Jalr rd rs1 offset) pc x =
    let target = moved (slice_index x rs1) offset in jumps rd (following pc) (target - target % 2)
effect_of (Branch op rs1 rs2 offset) pc x =
    if is_taken op (slice_index x rs1) (slice_index x rs2) then jumps 0 0 (moved pc offset)
    else writes 0 0 pc
effect_of (Load op rd rs1 offset) pc x = Loads op rd (moved (slice_index x rs1) offset)
effect_of (Store op rs1 rs2 offset) pc x =
    Stores op (moved (slice_index x rs1) offset) (slice_index x rs2)
effect_of (Imm op rd rs1 immediate) pc x =
    writes rd (reg_value (reg_form op) (slice_index x rs1) (word_of immediate)) pc
effect_of (Reg op rd rs1 rs2) pc x =
    writes rd (reg_value op (slice_index x rs1) (slice_index x rs2)) pc
effect_of (Fence sets) pc x = writes 0 0 pc
effect_of Ecall pc x = Call
effect_of Ebreak pc x = Break

-- ---- how an access moves bytes

-- how many bytes a load or a store moves
abbrev pub load_bytes : LoadOp → ℕ
load_bytes Lb = 1
load_bytes Lh = 2
load_bytes Lw = 4
load_bytes Lbu = 1
load_bytes Lhu = 2

-- how many bytes a store writes
abbrev pub store_bytes : StoreOp → ℕ
store_bytes Sb = 1
store_bytes Sh = 2
store_bytes Sw = 4

-- the value that a load gives rd, for the bytes that it read as one number: LB and LH extend the sign
abbrev pub load_value : LoadOp → ℕ → ℕ
load_value Lb n = word_of (cast_signed w8 n)
load_value Lh n = word_of (cast_signed w16 n)
load_value _ n = n
