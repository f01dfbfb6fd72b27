-- The names of the instructions (RISC-V unprivileged ISA manual, RV32I and "M"), of registers, and digits.
use Rattle.std.specs.Prelude.{ℕ, zero, suc, ◌+◌, ◌/◌, ◌%◌, ◌^◌, nat_lt, if◌then◌else◌, List, [], ◌∷◌, ◌++◌, codes}
use Rattle.std.specs.Fmt.{decimal}
use Rattle.ckc_rv_operations.specs.declared.operations.BranchOp.{BranchOp}
use Rattle.ckc_rv_operations.specs.declared.operations.BranchOp.TheVariants.{Beq, Bne, Blt, Bge, Bltu, Bgeu}
use Rattle.ckc_rv_operations.specs.declared.operations.LoadOp.{LoadOp}
use Rattle.ckc_rv_operations.specs.declared.operations.LoadOp.TheVariants.{Lb, Lh, Lw, Lbu, Lhu}
use Rattle.ckc_rv_operations.specs.declared.operations.StoreOp.{StoreOp}
use Rattle.ckc_rv_operations.specs.declared.operations.StoreOp.TheVariants.{Sb, Sh, Sw}
use Rattle.ckc_rv_operations.specs.declared.operations.ImmOp.{ImmOp}
use Rattle.ckc_rv_operations.specs.declared.operations.ImmOp.TheVariants.{Addi, Slti, Sltiu, Xori, Ori, Andi, Slli, Srli, Srai}
use Rattle.ckc_rv_operations.specs.declared.operations.RegOp.{RegOp}
use Rattle.ckc_rv_operations.specs.declared.operations.RegOp.TheVariants.{Add, Sub, Sll, Slt, Sltu, Xor, Srl, Sra, Or, And, Mul, Mulh, Mulhsu, Mulhu, Div, Divu, Rem, Remu}

-- the mnemonic of a branch
abbrev pub branch_name : BranchOp → List ℕ
branch_name Beq = codes "beq"
branch_name Bne = codes "bne"
branch_name Blt = codes "blt"
branch_name Bge = codes "bge"
branch_name Bltu = codes "bltu"
branch_name Bgeu = codes "bgeu"

-- the mnemonic of a load
abbrev pub load_name : LoadOp → List ℕ
load_name Lb = codes "lb"
load_name Lh = codes "lh"
load_name Lw = codes "lw"
load_name Lbu = codes "lbu"
load_name Lhu = codes "lhu"

-- the mnemonic of a store
abbrev pub store_name : StoreOp → List ℕ
store_name Sb = codes "sb"
store_name Sh = codes "sh"
store_name Sw = codes "sw"

-- the mnemonic of an operation with a number
abbrev pub imm_name : ImmOp → List ℕ
imm_name Addi = codes "addi"
imm_name Slti = codes "slti"
imm_name Sltiu = codes "sltiu"
imm_name Xori = codes "xori"
imm_name Ori = codes "ori"
imm_name Andi = codes "andi"
imm_name Slli = codes "slli"
imm_name Srli = codes "srli"
imm_name Srai = codes "srai"

-- the mnemonic of an operation on registers
abbrev pub reg_name : RegOp → List ℕ
reg_name Add = codes "add"
reg_name Sub = codes "sub"
reg_name Sll = codes "sll"
reg_name Slt = codes "slt"
reg_name Sltu = codes "sltu"
reg_name Xor = codes "xor"
reg_name Srl = codes "srl"
reg_name Sra = codes "sra"
reg_name Or = codes "or"
reg_name And = codes "and"
reg_name Mul = codes "mul"
reg_name Mulh = codes "mulh"
reg_name Mulhsu = codes "mulhsu"
reg_name Mulhu = codes "mulhu"
reg_name Div = codes "div"
reg_name Divu = codes "divu"
reg_name Rem = codes "rem"
reg_name Remu = codes "remu"

-- `x` and the register's number
abbrev pub register : ℕ → List ℕ
register n = 120 ∷ decimal n

-- the lower-case hexadecimal digit of a number below 16
abbrev pub hex_digit : ℕ → ℕ
hex_digit d = if nat_lt d 10 then 48 + d else 87 + d

-- so many of the lowest hexadecimal digits, the highest first
unfoldable pub hex : ℕ → ℕ → List ℕ
hex zero n = []
hex (suc count) n = hex_digit (n / 16 ^ count % 16) ∷ hex count n

-- `0x` and so many digits
abbrev pub hexadecimal : ℕ → ℕ → List ℕ
hexadecimal count n = codes "0x" ++ hex count n
