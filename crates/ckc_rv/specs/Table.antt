-- The instruction table of RV32IM (RISC-V unprivileged ISA manual, "RV32/64G Instruction Set Listings"). A row
-- is an instruction whose fields are in range together with its word: a sum of fields times powers of two.
use Rattle.std.specs.Prelude.{◌≡◌, ℕ, ◌+◌, ◌*◌, ◌/◌, ◌%◌, ◌^◌, ◌<◌, ℤ, pos, neg_ℤ, ◌≤ℤ◌, ◌<ℤ◌}
use Rattle.ckc_base.specs.Words.{word_of}
pub use Rattle.ckc_rv_operations.specs.Codes.{branch_funct3, load_funct3, store_funct3, imm_funct3, reg_funct3, reg_funct7}
use Rattle.ckc_rv_operations.specs.declared.operations.ImmOp.{ImmOp}
use Rattle.ckc_rv_operations.specs.declared.operations.ImmOp.TheVariants.{Slli, Srli, Srai}
use Rattle.ckc_rv.specs.declared.instructions.Instr.{Instr}
use Rattle.ckc_rv.specs.declared.instructions.Instr.TheVariants.{Lui, Auipc, Jal, Jalr, Branch, Load, Store, Imm, Reg, Fence, Ecall, Ebreak}

-- ---- the ranges of the fields

-- a signed immediate of which one bit is the sign: from -half to half - 1
abbrev pub IsSigned : ℕ → ℤ → Type 0
IsSigned half z = (neg_ℤ (pos half) ≤ℤ z) × (z <ℤ pos half)

-- an offset of a branch or jump counts bytes and is even
abbrev pub IsOffset : ℕ → ℤ → Type 0
IsOffset half z = IsSigned half z × (word_of z % 2 ≡ 0)

-- the count of a shift
abbrev pub IsCount : ℤ → Type 0
IsCount z = (pos 0 ≤ℤ z) × (z <ℤ pos 32)

-- the immediate of an operation: 12 bits with a sign, or the count of a shift
abbrev pub IsImmediate : ImmOp → ℤ → Type 0
IsImmediate Slli z = IsCount z
IsImmediate Srli z = IsCount z
IsImmediate Srai z = IsCount z
IsImmediate _ z = IsSigned (2 ^ 11) z

-- each field fits its bits
abbrev pub InRange : Instr → Type 0
InRange (Lui rd upper) = (rd < 32) × (upper < 2 ^ 20)
InRange (Auipc rd upper) = (rd < 32) × (upper < 2 ^ 20)
InRange (Jal rd offset) = (rd < 32) × IsOffset (2 ^ 20) offset
InRange (Jalr rd rs1 offset) = (rd < 32) × (rs1 < 32) × IsSigned (2 ^ 11) offset
InRange (Branch op rs1 rs2 offset) = (rs1 < 32) × (rs2 < 32) × IsOffset (2 ^ 12) offset
InRange (Load op rd rs1 offset) = (rd < 32) × (rs1 < 32) × IsSigned (2 ^ 11) offset
InRange (Store op rs1 rs2 offset) = (rs1 < 32) × (rs2 < 32) × IsSigned (2 ^ 11) offset
InRange (Imm op rd rs1 immediate) = (rd < 32) × (rs1 < 32) × IsImmediate op immediate
InRange (Reg op rd rs1 rs2) = (rd < 32) × (rs1 < 32) × (rs2 < 32)
InRange (Fence sets) = sets < 2 ^ 8
InRange Ecall = Unit {0}
InRange Ebreak = Unit {0}

-- ---- the formats: the fields of a word from its bit 31 down, as the manual draws them

-- the R-format: operations on registers
abbrev pub r_word : ℕ → ℕ → ℕ → ℕ → ℕ → ℕ → ℕ
r_word funct7 rs2 rs1 funct3 rd opcode =
    funct7 * 2 ^ 25 + rs2 * 2 ^ 20 + rs1 * 2 ^ 15 + funct3 * 2 ^ 12 + rd * 2 ^ 7 + opcode

-- the I-format: operations with an immediate, loads, JALR and FENCE
abbrev pub i_word : ℕ → ℕ → ℕ → ℕ → ℕ → ℕ
i_word immediate rs1 funct3 rd opcode =
    immediate * 2 ^ 20 + rs1 * 2 ^ 15 + funct3 * 2 ^ 12 + rd * 2 ^ 7 + opcode

-- the immediate's bits 11 to 5, and 4 to 0
abbrev pub s_word : ℕ → ℕ → ℕ → ℕ → ℕ → ℕ
s_word immediate rs2 rs1 funct3 opcode =
    r_word (immediate / 2 ^ 5) rs2 rs1 funct3 (immediate % 2 ^ 5) opcode

-- the offset's bits 12, 10 to 5, and 4 to 1, 11
abbrev pub b_word : ℕ → ℕ → ℕ → ℕ → ℕ → ℕ
b_word offset rs2 rs1 funct3 opcode =
    r_word (offset / 2 ^ 12 * 2 ^ 6 + offset / 2 ^ 5 % 2 ^ 6) rs2 rs1 funct3
    (offset % 2 ^ 5 + offset / 2 ^ 11 % 2) opcode

-- the U-format: LUI and AUIPC
abbrev pub u_word : ℕ → ℕ → ℕ → ℕ
u_word upper rd opcode = upper * 2 ^ 12 + rd * 2 ^ 7 + opcode

-- the offset's bits 20, 10 to 1, 11, and 19 to 12
abbrev pub j_word : ℕ → ℕ → ℕ → ℕ
j_word offset rd opcode =
    u_word (offset / 2 ^ 20 * 2 ^ 19 + offset / 2 % 2 ^ 10 * 2 ^ 9 + offset / 2 ^ 11 % 2 * 2 ^ 8
    + offset / 2 ^ 12 % 2 ^ 8)
    rd opcode

-- the lowest bits of a signed number
abbrev pub low_bits : ℕ → ℤ → ℕ
low_bits count z = word_of z % 2 ^ count

-- The bits 31 to 20 of an operation with an immediate. A count is below 32, so bits 31 to 25 of SLLI and SRLI are
-- zero; SRAI has 0x20 there.
abbrev pub imm_bits : ImmOp → ℤ → ℕ
imm_bits Srai z = 0x20 * 2 ^ 5 + low_bits 5 z
imm_bits _ z = low_bits 12 z

-- ---- the rows

-- The word of an instruction in range. A FENCE has rd, rs1 and the bits 31 to 28 zero; the other FENCE words of the
-- manual, FENCE.TSO among them, have no row.
abbrev pub row_word : Instr → ℕ
row_word (Lui rd upper) = u_word upper rd 0x37
row_word (Auipc rd upper) = u_word upper rd 0x17
row_word (Jal rd offset) = j_word (low_bits 21 offset) rd 0x6F
row_word (Jalr rd rs1 offset) = i_word (low_bits 12 offset) rs1 0 rd 0x67
row_word (Branch op rs1 rs2 offset) = b_word (low_bits 13 offset) rs2 rs1 (branch_funct3 op) 0x63
row_word (Load op rd rs1 offset) = i_word (low_bits 12 offset) rs1 (load_funct3 op) rd 0x03
row_word (Store op rs1 rs2 offset) = s_word (low_bits 12 offset) rs2 rs1 (store_funct3 op) 0x23
row_word (Imm op rd rs1 immediate) = i_word (imm_bits op immediate) rs1 (imm_funct3 op) rd 0x13
row_word (Reg op rd rs1 rs2) = r_word (reg_funct7 op) rs2 rs1 (reg_funct3 op) rd 0x33
row_word (Fence sets) = i_word sets 0 0 0 0x0F
row_word Ecall = 0x00000073
row_word Ebreak = 0x00100073

-- The word is the instruction's.
abbrev pub Decodes : ℕ → Instr → Type 0
Decodes word i = InRange i × (word ≡ row_word i)
