-- The effects of each group of instructions, which one function each carries out.
use Rattle.std.specs.Prelude.{ℕ, List}
use Rattle.ckc_rv_operations.specs.declared.operations.BranchOp.{BranchOp}
use Rattle.ckc_rv_operations.specs.declared.operations.LoadOp.{LoadOp}
use Rattle.ckc_rv_operations.specs.declared.operations.StoreOp.{StoreOp}
use Rattle.ckc_rv_operations.specs.declared.operations.ImmOp.{ImmOp}
use Rattle.ckc_rv_operations.specs.declared.operations.RegOp.{RegOp}
use Rattle.ckc_rv.specs.declared.instructions.Instr.TheVariants as instr
use Rattle.ckc_rv.specs.declared.registers.Outcome.{Outcome}
use Rattle.ckc_rv.specs.declared.registers.Outcome.TheVariants.{Load}
use Rattle.ckc_rv.specs.Effects.{effect_of}
use Rattle.ckc_rv.specs.code.Decoded.{rd_of, rs1_of, rs2_of, i_immediate, s_immediate, b_offset, imm_of}

-- the effect of a word whose operation is known
abbrev pub branch_effect : BranchOp → ℕ → ℕ → List ℕ → Outcome
branch_effect op word pc x =
    effect_of (instr.Branch op (rs1_of word) (rs2_of word) (b_offset word)) pc x

abbrev pub load_effect : LoadOp → ℕ → ℕ → List ℕ → Outcome
load_effect op word pc x =
    effect_of (instr.Load op (rd_of word) (rs1_of word) (i_immediate word)) pc x

abbrev pub store_effect : StoreOp → ℕ → ℕ → List ℕ → Outcome
store_effect op word pc x =
    effect_of (instr.Store op (rs1_of word) (rs2_of word) (s_immediate word)) pc x

abbrev pub imm_effect : ImmOp → ℕ → ℕ → List ℕ → Outcome
imm_effect op word pc x = effect_of (instr.Imm op (rd_of word) (rs1_of word) (imm_of op word)) pc x

abbrev pub reg_effect : RegOp → ℕ → ℕ → List ℕ → Outcome
reg_effect op word pc x = effect_of (instr.Reg op (rd_of word) (rs1_of word) (rs2_of word)) pc x
