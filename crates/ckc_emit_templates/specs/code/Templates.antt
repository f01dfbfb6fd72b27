-- The lines of short sequences of instructions, each in front of the lines that follow it. They mirror what the code makes
-- and need not be believed.
use Rattle.std.specs.Prelude.{ℕ, ◌+◌, ◌/◌, ◌%◌, ◌^◌, ◌==◌, nat_lt, Bool, if◌then◌else◌, ℤ, pos, ◌-ℤ◌, List, ◌∷◌}
use Rattle.std.specs.Ordering.{int_eq}
use Rattle.ckc_rv_operations.specs.declared.operations.LoadOp.TheVariants.{Lw}
use Rattle.ckc_rv_operations.specs.declared.operations.StoreOp.TheVariants.{Sw}
use Rattle.ckc_rv_operations.specs.declared.operations.ImmOp.{ImmOp}
use Rattle.ckc_rv_operations.specs.declared.operations.ImmOp.TheVariants.{Addi}
use Rattle.ckc_rv_operations.specs.declared.operations.RegOp.TheVariants.{Add}
use Rattle.ckc_rv.specs.declared.instructions.Instr.{Instr}
use Rattle.ckc_rv.specs.declared.instructions.Instr.TheVariants.{Lui, Load, Store, Imm, Reg, Ecall}
use Rattle.ckc_asm_lines.specs.declared.lines.Line.{Line}
use Rattle.ckc_asm_lines.specs.declared.lines.Line.TheVariants.{Plain}

-- ---- constants

-- the upper 20 bits of a word, rounded so that the rest fits 12 bits with a sign
unfoldable pub upper_of : ℕ → ℕ
upper_of v = (v + 0x800) % 2 ^ 32 / 0x1000

-- the rest of a word beside its upper 20 bits, from -2048 to 2047
unfoldable pub lower_of : ℕ → ℤ
lower_of v = pos ((v + 0x800) % 2 ^ 32 % 0x1000) -ℤ pos 0x800

abbrev pub add_lower_of : ℕ → ℕ → ℕ → Instr
add_lower_of rd rs v = Imm Addi rd rs (lower_of v)

abbrev pub immediate_of : ImmOp → ℕ → ℕ → ℕ → Instr
immediate_of op rd rs v = Imm op rd rs (lower_of v)

abbrev pub load_lower_of : ℕ → ℕ → Instr
load_lower_of rd offset = Load Lw rd 7 (lower_of offset)

abbrev pub store_lower_of : ℕ → ℕ → Instr
store_lower_of rs offset = Store Sw 7 rs (lower_of offset)

abbrev pub load_near_of : ℕ → ℕ → ℕ → Instr
load_near_of rd frame offset = Load Lw rd frame (pos offset)

abbrev pub store_near_of : ℕ → ℕ → ℕ → Instr
store_near_of rs frame offset = Store Sw frame rs (pos offset)

-- the lower bits are zero
abbrev pub is_round : ℕ → Bool
is_round v = int_eq (lower_of v) (pos 0)

abbrev pub both_lines : ℕ → ℕ → List Line → List Line
both_lines rd v rest = Plain (Lui rd (upper_of v)) ∷ Plain (add_lower_of rd rd v) ∷ rest

abbrev pub large_lines : ℕ → ℕ → List Line → List Line
large_lines rd v rest =
    if is_round v then Plain (Lui rd (upper_of v)) ∷ rest else both_lines rd v rest

-- a register is set to a word
abbrev pub constant_lines : ℕ → ℕ → List Line → List Line
constant_lines rd v rest =
    if upper_of v == 0 then Plain (add_lower_of rd 0 v) ∷ rest else large_lines rd v rest

abbrev pub move_lines : ℕ → ℕ → List Line → List Line
move_lines rd rs rest = Plain (Imm Addi rd rs (pos 0)) ∷ rest

-- ---- the words of a frame

-- x7 is set to an offset, of which the lower part is left, from a frame
abbrev pub offset_lines : ℕ → ℕ → List Line → List Line
offset_lines frame offset rest = Plain (Lui 7 (upper_of offset)) ∷ Plain (Reg Add 7 7 frame) ∷ rest

abbrev pub far_load_lines : ℕ → ℕ → ℕ → List Line → List Line
far_load_lines rd frame offset rest =
    offset_lines frame offset (Plain (load_lower_of rd offset) ∷ rest)

abbrev pub load_lines : ℕ → ℕ → ℕ → List Line → List Line
load_lines rd frame offset rest =
    if nat_lt offset 2048 then Plain (load_near_of rd frame offset) ∷ rest
    else far_load_lines rd frame offset rest

abbrev pub far_store_lines : ℕ → ℕ → ℕ → List Line → List Line
far_store_lines rs frame offset rest =
    offset_lines frame offset (Plain (store_lower_of rs offset) ∷ rest)

abbrev pub store_lines : ℕ → ℕ → ℕ → List Line → List Line
store_lines rs frame offset rest =
    if nat_lt offset 2048 then Plain (store_near_of rs frame offset) ∷ rest
    else far_store_lines rs frame offset rest

-- ---- environment calls

abbrev pub ask_lines : ℕ → List Line → List Line
ask_lines call rest = constant_lines 17 call (Plain Ecall ∷ rest)
