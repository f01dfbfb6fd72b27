-- What the next instruction of a state comes to.
use Rattle.std.proofs.Common.{◌≡◌, ℕ, Bool, true, false, cond, List, Option, None, Some, option_and_then, refl, sym, subst, ap, ◌∙◌}
use Rattle.ckc_rv.specs.declared.instructions.Instr.{Instr}
use Rattle.ckc_rv.specs.declared.instructions.Instr.TheVariants.{Lui, Auipc, Jal, Jalr, Branch, Load, Store, Imm, Reg, Fence, Ecall, Ebreak}
use Rattle.ckc_rv.specs.declared.registers.Outcome.{Outcome}
use Rattle.ckc_rv.specs.declared.registers.Outcome.TheVariants as outcome
use Rattle.ckc_rv.specs.Effects.{effect_of, jumps, moved, following, writes}
use Rattle.ckc_rv.specs.code.Decoded.{decoded}
use Rattle.ckc_rv.specs.Outcomes.{effect_if, outcome_of}
use Rattle.ckc_rv.specs.Machine.{Parts, State, loaded, is_code, machine_step, executes, faults, by_outcome, calls, stops, register}
use Rattle.ckc_base.specs.Checks.{check_with}
use Rattle.ckc_machine.specs.declared.machine.Turn.{Turn}
use Rattle.ckc_machine.specs.declared.machine.Turn.TheVariants as turn
use Rattle.ckc_machine.specs.Runs.{AsksFor}
use Rattle.ckc_machine.specs.code.Turns.{Turns, TurnsBy}

-- ---- the environment call

jump_calls_not : (b : Bool) (rd value target : ℕ) → cond b (outcome.Next rd value target) outcome.BadTarget ≡ outcome.Call → ⊥
jump_calls_not true rd value target e = cc
jump_calls_not false rd value target e = cc

next_calls_not : (rd value pc : ℕ) → outcome.Next rd value pc ≡ outcome.Call → ⊥
next_calls_not rd value pc e = cc

branch_calls_not : (b : Bool) (x y : Outcome) → (x ≡ outcome.Call → ⊥) → (y ≡ outcome.Call → ⊥) → cond b x y ≡ outcome.Call → ⊥
branch_calls_not true x y h k e = h e
branch_calls_not false x y h k e = k e

pub only_ecall : (i : Instr) (pc : ℕ) (x : List ℕ) → effect_of i pc x ≡ outcome.Call → i ≡ Ecall
only_ecall (Lui rd upper) pc x e = absurd cc
only_ecall (Auipc rd upper) pc x e = absurd cc
only_ecall (Jal rd offset) pc x e = absurd (jump_calls_not _ rd _ _ e)
only_ecall (Jalr rd rs1 offset) pc x e = absurd (jump_calls_not _ rd _ _ e)
only_ecall (Branch op rs1 rs2 offset) pc x e =
    absurd (branch_calls_not _ (jumps 0 0 (moved pc offset)) (writes 0 0 pc) (jump_calls_not _ 0 _ _) (next_calls_not 0 0 (following pc)) e)
only_ecall (Load op rd rs1 offset) pc x e = absurd cc
only_ecall (Store op rs1 rs2 offset) pc x e = absurd cc
only_ecall (Imm op rd rs1 immediate) pc x e = absurd cc
only_ecall (Reg op rd rs1 rs2) pc x e = absurd cc
only_ecall (Fence sets) pc x e = absurd cc
only_ecall Ecall pc x e = refl
only_ecall Ebreak pc x e = absurd cc

-- ---- fetched, decoded, executed

module _ (parts : Parts) (s : State) where
  pub not_fetched : is_code parts s.pc ≡ false → machine_step parts s ≡ faults 0 s
  unfolding machine_step
  not_fetched e = ap (λ b. cond b (executes s (option_and_then decoded (loaded s.memory 4 s.pc))) (faults 0 s)) e

  fetched : (word : ℕ) → is_code parts s.pc ≡ true → loaded s.memory 4 s.pc ≡ Some word → machine_step parts s ≡ executes s (decoded word)
  unfolding machine_step
  fetched word e f =
      ap (λ b. cond b (executes s (option_and_then decoded (loaded s.memory 4 s.pc))) (faults 0 s)) e
      ∙ ap (λ (o : Option ℕ). executes s (option_and_then decoded o)) f

  not_decoded : (word : ℕ) → is_code parts s.pc ≡ true → loaded s.memory 4 s.pc ≡ Some word → decoded word ≡ None → machine_step parts s ≡ faults 1 s
  not_decoded word e f d = fetched word e f ∙ ap (executes s) d

  executed : (word : ℕ) (i : Instr) → is_code parts s.pc ≡ true → loaded s.memory 4 s.pc ≡ Some word → decoded word ≡ Some i → machine_step parts s ≡ by_outcome s (effect_of i s.pc s.x)
  executed word i e f d = fetched word e f ∙ ap (executes s) d

  asks : (word : ℕ) (i : Instr) (call : ℕ) → is_code parts s.pc ≡ true → loaded s.memory 4 s.pc ≡ Some word → decoded word ≡ Some i → effect_of i s.pc s.x ≡ outcome.Call → register s 17 ≡ call → AsksFor parts s call
  asks word i call e f d o r = record {
    fetches = e;
    instruction = ap (option_and_then decoded) f ∙ d ∙ ap Some (only_ecall i s.pc s.x o);
    number = r;
  }

  turns : (word : ℕ) (i : Instr) (t : Turn) → is_code parts s.pc ≡ true → loaded s.memory 4 s.pc ≡ Some word → decoded word ≡ Some i
      → TurnsBy (effect_of i s.pc s.x) s (by_outcome s (effect_of i s.pc s.x)) t → Turns parts s t
  turns word i (turn.Next rd value pc) e f d h = (h.0, executed word i e f d ∙ h.1)
  turns word i (turn.Store op a value) e f d h = (h.0, h.1, h.2, executed word i e f d ∙ h.3)
  turns word i (turn.Put byte) e f d h = (h.0, asks word i 1 e f d h.1.0 h.1.1)
  turns word i turn.Get e f d h = asks word i 2 e f d h.0 h.1
  turns word i (turn.Halt answer) e f d h = (h.0, h.1, executed word i e f d ∙ h.2)

  by_instruction : (word : ℕ) (out : Outcome) (t : Turn) (i : Option Instr) → is_code parts s.pc ≡ true → loaded s.memory 4 s.pc ≡ Some word → decoded word ≡ i
      → effect_if i s.pc s.x ≡ Some out → TurnsBy out s (by_outcome s out) t → Turns parts s t
  by_instruction word out t None e f d o h = absurd cc
  by_instruction word out t (Some i) e f d o h =
      let same : effect_of i s.pc s.x ≡ out = cc in
      turns word i t e f d (subst (λ (p : Outcome). TurnsBy p s (by_outcome s p) t) (sym same) h)

  no_effect : (i : Option Instr) → effect_if i s.pc s.x ≡ None → i ≡ None
  no_effect None e = refl
  no_effect (Some i) e = absurd cc

  -- a word that is no instruction
  pub no_instruction : (word : ℕ) → is_code parts s.pc ≡ true → loaded s.memory 4 s.pc ≡ Some word → outcome_of word s.pc s.x ≡ None → machine_step parts s ≡ faults 1 s
  no_instruction word e f o = not_decoded word e f (no_effect (decoded word) o)

  -- a word with an outcome
  pub turns_with : (word : ℕ) (out : Outcome) (t : Turn) → is_code parts s.pc ≡ true → loaded s.memory 4 s.pc ≡ Some word → outcome_of word s.pc s.x ≡ Some out
      → TurnsBy out s (by_outcome s out) t → Turns parts s t
  turns_with word out t e f o h = by_instruction word out t (decoded word) e f refl o h

  -- an environment call does what its number says
  pub asks_step : (call : ℕ) → AsksFor parts s call → machine_step parts s ≡ calls s
  unfolding machine_step
  asks_step call a =
      ap (λ b. cond b (executes s (option_and_then decoded (loaded s.memory 4 s.pc))) (faults 0 s)) a.fetches ∙ ap (executes s) a.instruction

pub calls_stop : (s : State) → register s 17 ≡ 3 → calls s ≡ stops s (check_with (register s 10))
calls_stop s e = rw e refl
