-- What a word does names one of the 32 registers.
use Rattle.std.proofs.Common.{ℕ, ◌<◌, ◌%◌, ◌==◌, List, slice_index, Option, Some, None, IfSome, Bool, true, false, cond, arith}
use Rattle.ckc_rv.specs.declared.instructions.Instr.{Instr}
use Rattle.ckc_rv.specs.declared.instructions.Instr.TheVariants.{Lui, Auipc, Jal, Jalr, Branch, Load, Store, Imm, Reg, Fence, Ecall, Ebreak}
use Rattle.ckc_rv.specs.declared.registers.Outcome.{Outcome}
use Rattle.ckc_rv.specs.declared.registers.Outcome.TheVariants as outcome
use Rattle.ckc_rv.specs.Table.{InRange}
use Rattle.ckc_rv.specs.Effects.{effect_of, is_taken, moved, following}
use Rattle.ckc_rv.specs.code.Decoded.{decoded}
use Rattle.ckc_rv.specs.Outcomes.{effect_if, outcome_of, NamesRegister}
use Rattle.ckc_rv.proofs.Rows.{decoded_fits}

either_names : (b : Bool) (p q : Outcome) → NamesRegister p → NamesRegister q → NamesRegister (cond b p q)
either_names true p q h k = h
either_names false p q h k = k

jump_names : (b : Bool) (rd value target : ℕ) → rd < 32 → NamesRegister (cond b (outcome.Next rd value target) outcome.BadTarget)
jump_names b rd value target h = either_names b (outcome.Next rd value target) outcome.BadTarget h tt

branch_names : (b c : Bool) (target next : ℕ) → NamesRegister (cond b (cond c (outcome.Next 0 0 target) outcome.BadTarget) (outcome.Next 0 0 next))
branch_names true true target next = omega arith
branch_names true false target next = tt
branch_names false c target next = omega arith

effect_names : (i : Instr) (pc : ℕ) (x : List ℕ) → InRange i → NamesRegister (effect_of i pc x)
effect_names (Lui rd upper) pc x h = h.0
effect_names (Auipc rd upper) pc x h = h.0
effect_names (Jal rd offset) pc x h = jump_names _ rd _ _ h.0
effect_names (Jalr rd rs1 offset) pc x h = jump_names _ rd _ _ h.0
effect_names (Branch op rs1 rs2 offset) pc x h =
    branch_names (is_taken op (slice_index x rs1) (slice_index x rs2)) (moved pc offset % 4 == 0) (moved pc offset) (following pc)
effect_names (Load op rd rs1 offset) pc x h = h.0
effect_names (Store op rs1 rs2 offset) pc x h = tt
effect_names (Imm op rd rs1 immediate) pc x h = h.0
effect_names (Reg op rd rs1 rs2) pc x h = h.0
effect_names (Fence sets) pc x h = omega arith
effect_names Ecall pc x h = tt
effect_names Ebreak pc x h = tt

names_if : (i : Option Instr) (pc : ℕ) (x : List ℕ) → IfSome i (λ i. InRange i) → IfSome (effect_if i pc x) NamesRegister
names_if None pc x h = tt
names_if (Some i) pc x h = effect_names i pc x h

pub outcome_names : (word pc : ℕ) (x : List ℕ) → IfSome (outcome_of word pc x) NamesRegister
outcome_names word pc x = names_if (decoded word) pc x (decoded_fits word)
