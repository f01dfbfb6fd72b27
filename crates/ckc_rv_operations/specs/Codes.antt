-- The codes of the operations in a word (RISC-V unprivileged ISA manual, "RV32/64G Instruction Set Listings"): funct3 are
-- its bits 14 to 12, funct7 its bits 31 to 25.
use Rattle.std.specs.Prelude.{ℕ, ◌==◌, Bool, true, ◌&&◌, [], ◌∷◌, Option}
use Rattle.std.specs.List.{find}
use Rattle.ckc_rv_operations.specs.declared.operations.BranchOp.{BranchOp}
use Rattle.ckc_rv_operations.specs.declared.operations.BranchOp.TheVariants.{Beq, Bne, Blt, Bge, Bltu, Bgeu}
use Rattle.ckc_rv_operations.specs.declared.operations.LoadOp.{LoadOp}
use Rattle.ckc_rv_operations.specs.declared.operations.LoadOp.TheVariants.{Lb, Lh, Lw, Lbu, Lhu}
use Rattle.ckc_rv_operations.specs.declared.operations.StoreOp.{StoreOp}
use Rattle.ckc_rv_operations.specs.declared.operations.StoreOp.TheVariants.{Sb, Sh, Sw}
use Rattle.ckc_rv_operations.specs.declared.operations.ImmOp.{ImmOp}
use Rattle.ckc_rv_operations.specs.declared.operations.ImmOp.TheVariants.{Addi, Slti, Sltiu, Xori, Ori, Andi, Slli, Srli, Srai}
use Rattle.ckc_rv_operations.specs.declared.operations.RegOp.{RegOp}
use Rattle.ckc_rv_operations.specs.declared.operations.RegOp.TheVariants.{Add, Sub, Sll, Slt, Sltu, Xor, Srl, Sra, Or, And, Mul, Mulh, Mulhsu, Mulhu, Div, Divu, Rem, Remu}

-- ---- the codes of the operations

-- funct3 of a branch
abbrev pub branch_funct3 : BranchOp → ℕ
branch_funct3 Beq = 0
branch_funct3 Bne = 1
branch_funct3 Blt = 4
branch_funct3 Bge = 5
branch_funct3 Bltu = 6
branch_funct3 Bgeu = 7

-- funct3 of a load
abbrev pub load_funct3 : LoadOp → ℕ
load_funct3 Lb = 0
load_funct3 Lh = 1
load_funct3 Lw = 2
load_funct3 Lbu = 4
load_funct3 Lhu = 5

-- funct3 of a store
abbrev pub store_funct3 : StoreOp → ℕ
store_funct3 Sb = 0
store_funct3 Sh = 1
store_funct3 Sw = 2

-- funct3 of an operation with an immediate
abbrev pub imm_funct3 : ImmOp → ℕ
imm_funct3 Addi = 0
imm_funct3 Slti = 2
imm_funct3 Sltiu = 3
imm_funct3 Xori = 4
imm_funct3 Ori = 6
imm_funct3 Andi = 7
imm_funct3 Slli = 1
imm_funct3 Srli = 5
imm_funct3 Srai = 5

-- funct3 of an operation on registers
abbrev pub reg_funct3 : RegOp → ℕ
reg_funct3 Add = 0
reg_funct3 Sub = 0
reg_funct3 Sll = 1
reg_funct3 Slt = 2
reg_funct3 Sltu = 3
reg_funct3 Xor = 4
reg_funct3 Srl = 5
reg_funct3 Sra = 5
reg_funct3 Or = 6
reg_funct3 And = 7
reg_funct3 Mul = 0
reg_funct3 Mulh = 1
reg_funct3 Mulhsu = 2
reg_funct3 Mulhu = 3
reg_funct3 Div = 4
reg_funct3 Divu = 5
reg_funct3 Rem = 6
reg_funct3 Remu = 7

-- funct7 of an operation on registers, which is 1 for those of the extension M
abbrev pub reg_funct7 : RegOp → ℕ
reg_funct7 Add = 0
reg_funct7 Sub = 0x20
reg_funct7 Sll = 0
reg_funct7 Slt = 0
reg_funct7 Sltu = 0
reg_funct7 Xor = 0
reg_funct7 Srl = 0
reg_funct7 Sra = 0x20
reg_funct7 Or = 0
reg_funct7 And = 0
reg_funct7 _ = 1

-- ---- the operations by their codes

-- the branch with this funct3
abbrev pub branch_op : ℕ → Option BranchOp
branch_op funct3 = find (λ op. funct3 == branch_funct3 op) (Beq ∷ Bne ∷ Blt ∷ Bge ∷ Bltu ∷ Bgeu ∷ [])

-- the load with this funct3
abbrev pub load_op : ℕ → Option LoadOp
load_op funct3 = find (λ op. funct3 == load_funct3 op) (Lb ∷ Lh ∷ Lw ∷ Lbu ∷ Lhu ∷ [])

-- the store with this funct3
abbrev pub store_op : ℕ → Option StoreOp
store_op funct3 = find (λ op. funct3 == store_funct3 op) (Sb ∷ Sh ∷ Sw ∷ [])

-- whether an operation with an immediate may have this funct7, at which shifts alone look
abbrev pub has_funct7 : ImmOp → ℕ → Bool
has_funct7 Slli funct7 = funct7 == 0
has_funct7 Srli funct7 = funct7 == 0
has_funct7 Srai funct7 = funct7 == 0x20
has_funct7 _ funct7 = true

-- the operation with an immediate with this funct3 and funct7
abbrev pub imm_op : ℕ → ℕ → Option ImmOp
imm_op funct3 funct7 =
    find (λ op. funct3 == imm_funct3 op && has_funct7 op funct7)
    (Addi ∷ Slli ∷ Slti ∷ Sltiu ∷ Xori ∷ Srli ∷ Srai ∷ Ori ∷ Andi ∷ [])

-- the operation on registers with this funct3 and funct7
abbrev pub reg_op : ℕ → ℕ → Option RegOp
reg_op funct3 funct7 =
    find (λ op. funct7 == reg_funct7 op && funct3 == reg_funct3 op)
    (Add ∷ Sll ∷ Slt ∷ Sltu ∷ Xor ∷ Srl ∷ Or ∷ And ∷ Mul ∷ Mulh ∷ Mulhsu ∷ Mulhu ∷ Div ∷ Divu ∷ Rem ∷ Remu ∷ Sub ∷ Sra ∷ [])
