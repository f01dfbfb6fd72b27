-- The instruction of a word as a function, which the machine runs by. It need not be believed: the law
-- `decoded_by_rows` says that it answers exactly where the table relates word and instruction.
use Rattle.std.specs.Prelude.{ℕ, ◌+◌, ◌*◌, ◌/◌, ◌%◌, ◌^◌, ◌==◌, ◌&&◌, nat_lt, if◌then◌else◌, ℤ, pos, ◌-ℤ◌, Some, None, Option}
use Rattle.std.specs.Option.{option_map}
pub use Rattle.ckc_rv_operations.specs.Codes.{branch_op, load_op, store_op, imm_op, reg_op}
use Rattle.ckc_rv_operations.specs.declared.operations.ImmOp.{ImmOp}
use Rattle.ckc_rv_operations.specs.declared.operations.ImmOp.TheVariants.{Slli, Srli, Srai}
use Rattle.ckc_rv.specs.declared.instructions.Instr.{Instr}
use Rattle.ckc_rv.specs.declared.instructions.Instr.TheVariants.{Lui, Auipc, Jal, Jalr, Branch, Load, Store, Imm, Reg, Fence, Ecall, Ebreak}

-- ---- the fields of a word

-- the field rd, bits 11 to 7: the register that gets the result
abbrev pub rd_of : ℕ → ℕ
rd_of word = word / 2 ^ 7 % 2 ^ 5

-- the field funct3, bits 14 to 12
abbrev pub funct3_of : ℕ → ℕ
funct3_of word = word / 2 ^ 12 % 2 ^ 3

-- the field rs1, bits 19 to 15: the register of the first operand
abbrev pub rs1_of : ℕ → ℕ
rs1_of word = word / 2 ^ 15 % 2 ^ 5

-- the field rs2, bits 24 to 20: the register of the second operand
abbrev pub rs2_of : ℕ → ℕ
rs2_of word = word / 2 ^ 20 % 2 ^ 5

-- the field funct7, bits 31 to 25
abbrev pub funct7_of : ℕ → ℕ
funct7_of word = word / 2 ^ 25

-- the number whose lowest bits, of which the highest is the sign, are these
abbrev pub signed_from : ℕ → ℕ → ℤ
signed_from half bits = if nat_lt bits half then pos bits else pos bits -ℤ pos (2 * half)

-- the immediate of the I-format: bits 31 to 20
abbrev pub i_immediate : ℕ → ℤ
i_immediate word = signed_from (2 ^ 11) (word / 2 ^ 20)

-- the immediate of the S-format, which stores have: bits 31 to 25 and 11 to 7
abbrev pub s_immediate : ℕ → ℤ
s_immediate word = signed_from (2 ^ 11) (funct7_of word * 2 ^ 5 + rd_of word)

-- the offset in bytes of the B-format, which branches have: bits 31, 7, 30 to 25 and 11 to 8, then a 0
abbrev pub b_offset : ℕ → ℤ
b_offset word = signed_from (2 ^ 12)
    (funct7_of word / 2 ^ 6 * 2 ^ 12 + rd_of word % 2 * 2 ^ 11 + funct7_of word % 2 ^ 6 * 2 ^ 5
    + rd_of word / 2 * 2)

-- the offset in bytes of the J-format, which JAL has: bits 31, 19 to 12, 20 and 30 to 21, then a 0
abbrev pub j_offset : ℕ → ℤ
j_offset word = signed_from (2 ^ 20)
    (word / 2 ^ 31 * 2 ^ 20 + word / 2 ^ 12 % 2 ^ 8 * 2 ^ 12 + word / 2 ^ 20 % 2 * 2 ^ 11
    + word / 2 ^ 21 % 2 ^ 10 * 2)

-- the second operand of an operation with an immediate: the immediate, or the count of a shift
abbrev pub imm_of : ImmOp → ℕ → ℤ
imm_of Slli word = pos (rs2_of word)
imm_of Srli word = pos (rs2_of word)
imm_of Srai word = pos (rs2_of word)
imm_of _ word = i_immediate word

-- ---- the instruction, for each opcode that has several

-- a JALR, if funct3 is 0
abbrev pub decoded_jalr : ℕ → Option Instr
decoded_jalr word =
    if funct3_of word == 0 then Some (Jalr (rd_of word) (rs1_of word) (i_immediate word)) else None

-- a branch, if funct3 is that of one
abbrev pub decoded_branch : ℕ → Option Instr
decoded_branch word =
    option_map (λ op. Branch op (rs1_of word) (rs2_of word) (b_offset word))
    (branch_op (funct3_of word))

-- a load, if funct3 is that of one
abbrev pub decoded_load : ℕ → Option Instr
decoded_load word =
    option_map (λ op. Load op (rd_of word) (rs1_of word) (i_immediate word))
    (load_op (funct3_of word))

-- a store, if funct3 is that of one
abbrev pub decoded_store : ℕ → Option Instr
decoded_store word =
    option_map (λ op. Store op (rs1_of word) (rs2_of word) (s_immediate word))
    (store_op (funct3_of word))

-- an operation with an immediate, if funct3 and funct7 are those of one
abbrev pub decoded_imm : ℕ → Option Instr
decoded_imm word =
    option_map (λ op. Imm op (rd_of word) (rs1_of word) (imm_of op word))
    (imm_op (funct3_of word) (funct7_of word))

-- an operation on registers, if funct3 and funct7 are those of one
abbrev pub decoded_reg : ℕ → Option Instr
decoded_reg word =
    option_map (λ op. Reg op (rd_of word) (rs1_of word) (rs2_of word))
    (reg_op (funct3_of word) (funct7_of word))

-- with rd, funct3 and rs1 zero, and the bits 31 to 28
abbrev pub decoded_fence : ℕ → Option Instr
decoded_fence word =
    if word / 2 ^ 28 == 0 && word / 2 ^ 7 % 2 ^ 13 == 0 then Some (Fence (word / 2 ^ 20)) else None

-- ECALL and EBREAK, each of which is one word
abbrev pub decoded_system : ℕ → Option Instr
decoded_system word =
    if word == 0x00000073 then Some Ecall else if word == 0x00100073 then Some Ebreak else None

-- the instruction of a word below 2 ^ 32 with the opcode
unfoldable pub by_opcode : ℕ → ℕ → Option Instr
by_opcode opcode word =
    if opcode == 0x37 then Some (Lui (rd_of word) (word / 2 ^ 12))
    else if opcode == 0x17 then Some (Auipc (rd_of word) (word / 2 ^ 12))
    else if opcode == 0x6F then Some (Jal (rd_of word) (j_offset word))
    else if opcode == 0x67 then decoded_jalr word
    else if opcode == 0x63 then decoded_branch word
    else if opcode == 0x03 then decoded_load word
    else if opcode == 0x23 then decoded_store word
    else if opcode == 0x13 then decoded_imm word
    else if opcode == 0x33 then decoded_reg word
    else if opcode == 0x0F then decoded_fence word
    else if opcode == 0x73 then decoded_system word
    else None

-- the instruction of a word, if the table has one for it
unfoldable pub decoded : ℕ → Option Instr
decoded word = if nat_lt word (2 ^ 32) then by_opcode (word % 2 ^ 7) word else None
