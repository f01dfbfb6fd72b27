-- The registers x27 to x31 are spared: no line names one of them.
use Rattle.std.specs.Prelude.{◌<◌}
use Rattle.ckc_rv.specs.declared.instructions.Instr.{Instr}
use Rattle.ckc_rv.specs.declared.instructions.Instr.TheVariants as instr
use Rattle.ckc_asm_lines.specs.declared.lines.Line.{Line}
use Rattle.ckc_asm_lines.specs.declared.lines.Line.TheVariants.{Label, Plain, Jump, Branch, Far}

-- the instruction names registers below x27 alone
abbrev pub SparesByInstr : Instr → Type 0
SparesByInstr (instr.Lui rd upper) = rd < 27
SparesByInstr (instr.Auipc rd upper) = rd < 27
SparesByInstr (instr.Jal rd offset) = rd < 27
SparesByInstr (instr.Jalr rd rs1 offset) = (rd < 27) × (rs1 < 27)
SparesByInstr (instr.Branch op rs1 rs2 offset) = (rs1 < 27) × (rs2 < 27)
SparesByInstr (instr.Load op rd rs1 offset) = (rd < 27) × (rs1 < 27)
SparesByInstr (instr.Store op rs1 rs2 offset) = (rs1 < 27) × (rs2 < 27)
SparesByInstr (instr.Imm op rd rs1 immediate) = (rd < 27) × (rs1 < 27)
SparesByInstr (instr.Reg op rd rs1 rs2) = (rd < 27) × (rs1 < 27) × (rs2 < 27)
SparesByInstr (instr.Fence sets) = Unit {0}
SparesByInstr instr.Ecall = Unit {0}
SparesByInstr instr.Ebreak = Unit {0}

-- a line names registers below x27 alone
abbrev pub Spares : Line → Type 0
Spares (Label label) = Unit {0}
Spares (Plain i) = SparesByInstr i
Spares (Jump rd label) = rd < 27
Spares (Branch op rs1 rs2 label) = (rs1 < 27) × (rs2 < 27)
Spares (Far rd label) = rd < 27
