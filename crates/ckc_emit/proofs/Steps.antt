-- One instruction of the machine, over local states.
use Rattle.std.proofs.Common.{◌≡◌, ◌≢◌, ℕ, ◌+◌, ◌-◌, ◌*◌, ◌%◌, ◌^◌, ◌≤◌, ◌<◌, ◌==◌, if◌then◌else◌, cond, Bool, true, false, List, [], ◌∷◌, Some, None, option_and_then, refl, ap, ◌∙◌, arith}
use Rattle.std.specs.Prelude.{slice_index, slice_set, ℤ, not}
use Rattle.std.proofs.lemmas.Bool.Decides.{nat_tests}
use Rattle.ckc_base.specs.Traces.{Event, Got, Put, Ended, Stopped}
use Rattle.ckc_base.specs.declared.runtime_checks.Check.{Check}
use Rattle.ckc_base.specs.Checks.{check_with}
use Rattle.ckc_base.specs.Words.{word_of}
use Rattle.ckc_base.specs.Steps.{Move, Goes, Halts}
use Rattle.ckc_rv_operations.specs.declared.operations.RegOp.{RegOp}
use Rattle.ckc_rv_operations.specs.declared.operations.ImmOp.{ImmOp}
use Rattle.ckc_rv_operations.specs.declared.operations.BranchOp.{BranchOp}
use Rattle.ckc_rv_operations.specs.declared.operations.LoadOp.{LoadOp}
use Rattle.ckc_rv_operations.specs.declared.operations.StoreOp.{StoreOp}
use Rattle.ckc_rv.specs.declared.instructions.Instr.{Instr}
use Rattle.ckc_rv.specs.declared.instructions.Instr.TheVariants.{Lui, Auipc, Jal, Jalr, Branch, Load, Store, Imm, Reg, Ecall}
use Rattle.ckc_rv.specs.declared.registers.Outcome.{Outcome}
use Rattle.ckc_rv.specs.declared.registers.Outcome.TheVariants as outcome
use Rattle.ckc_rv.specs.Effects.{effect_of, following, moved, reg_value, reg_form, is_taken, load_bytes, store_bytes, load_value}
use Rattle.ckc_rv.specs.code.Decoded.{decoded}
use Rattle.ckc_rv.specs.Machine.{Parts, Memory, State, flat, loaded, stored, is_code, is_writable, data_start, memory_end, machine_step, executes, by_outcome, faults, register, with_register, next_with, gets, stops, loads}
use Rattle.ckc_rv.specs.Detailed.{MachineEvent, Outside, Wrote, writes_of, writes_by, with_writes, detailed_step}
use Rattle.ckc_emit.proofs.Local.{changed, changed_same, changed_other, table, table_at, table_set, Local, memory_of, memory_below, state_of}
use Rattle.ckc_emit.proofs.Words.{loaded_same}

-- the registers with another value of one; x0 stays 0
unfoldable pub set : (ℕ → ℕ) → ℕ → ℕ → ℕ → ℕ
set x rd v = if rd == 0 then x else changed x rd v

pub set_same : (x : ℕ → ℕ) (rd v : ℕ) → rd ≢ 0 → set x rd v rd ≡ v
unfolding set
set_same x rd v h =
    let e : (rd == 0) ≡ false = grind (arith, nat_tests) in
    ap (λ b. (if b then x else changed x rd v) rd) e ∙ changed_same x rd v rd refl

pub set_other : (x : ℕ → ℕ) (rd v r : ℕ) → r ≢ rd → set x rd v r ≡ x r
unfolding set
set_other x rd v r h = elim (rd == 0) as (λ b. (if b then x else changed x rd v) r ≡ x r) [ true ↦ refl | false ↦ changed_other x rd v r h ]

set_table : (x : ℕ → ℕ) (rd v : ℕ) → rd < 32 → with_register (table 32 x) rd v ≡ table 32 (set x rd v)
unfolding set
set_table x rd v h = elim (rd == 0) as (λ b. (if b then table 32 x else slice_set (table 32 x) rd v) ≡ table 32 (if b then x else changed x rd v)) [
  | true ↦ refl
  | false ↦ table_set 32 x rd v h
]

-- An instruction stands at an address of the code.
pub record At (parts : Parts) (pc : ℕ) (i : Instr) : Type 0 where
  pub fetches : is_code parts pc ≡ true
  pub decodes : option_and_then decoded (loaded (flat parts) 4 pc) ≡ Some i
  pub low : pc + 4 ≤ data_start
  pub aligned : pc % 4 ≡ 0

-- the local state with other registers
abbrev pub with_x : Local → (ℕ → ℕ) → Local
with_x l x = record l { x = x }

module _ (parts : Parts) (l : Local) (pc : ℕ) where
  fetched : pc + 4 ≤ data_start → loaded (memory_of parts l.bytes l.words) 4 pc ≡ loaded (flat parts) 4 pc
  fetched low = loaded_same (memory_of parts l.bytes l.words) (flat parts) 4 pc (λ j k. memory_below parts l.bytes l.words (pc + j) (omega arith))

  -- the step at an instruction is its effect's
  pub step_at : (i : Instr) → At parts pc i
      → detailed_step parts (state_of parts l pc)
      ≡ with_writes (writes_of (effect_of i pc (table 32 l.x))) (by_outcome (state_of parts l pc) (effect_of i pc (table 32 l.x)))
  unfolding detailed_step machine_step
  step_at i at =
      let e : option_and_then decoded (loaded (memory_of parts l.bytes l.words) 4 pc) ≡ Some i = ap (option_and_then decoded) (fetched at.low) ∙ at.decodes in
      ap (λ o. with_writes (writes_by (state_of parts l pc) o) (cond (is_code parts pc) (executes (state_of parts l pc) o) (faults 0 (state_of parts l pc)))) e
      ∙ ap (λ b. with_writes (writes_of (effect_of i pc (table 32 l.x))) (cond b (by_outcome (state_of parts l pc) (effect_of i pc (table 32 l.x))) (faults 0 (state_of parts l pc)))) at.fetches

  next_pc : pc + 4 ≤ data_start → following pc ≡ pc + 4
  next_pc low = omega arith

  -- a register is set, and the next instruction comes
  next_is : (rd v : ℕ) → rd < 32 → pc + 4 ≤ data_start
      → record (state_of parts l pc) { x = with_register (table 32 l.x) rd v; pc = following pc } ≡ state_of parts (with_x l (set l.x rd v)) (pc + 4)
  next_is rd v h low =
      ap (λ (x : List ℕ). let s : State = record { x = x; pc = following pc; memory = memory_of parts l.bytes l.words; input = l.input } in s) (set_table l.x rd v h)
      ∙ ap (λ (q : ℕ). let s : State = record { x = table 32 (set l.x rd v); pc = q; memory = memory_of parts l.bytes l.words; input = l.input } in s) (next_pc low)

  pub lui_step : (rd upper : ℕ) → At parts pc (Lui rd upper) → rd < 32
      → detailed_step parts (state_of parts l pc) ≡ Goes [] (state_of parts (with_x l (set l.x rd (upper * 2 ^ 12))) (pc + 4))
  lui_step rd upper at h = step_at (Lui rd upper) at ∙ ap (Goes []) (next_is rd (upper * 2 ^ 12) h at.low)

  pub reg_step : (op : RegOp) (rd rs1 rs2 : ℕ) → At parts pc (Reg op rd rs1 rs2) → rd < 32 → rs1 < 32 → rs2 < 32
      → detailed_step parts (state_of parts l pc) ≡ Goes [] (state_of parts (with_x l (set l.x rd (reg_value op (l.x rs1) (l.x rs2)))) (pc + 4))
  reg_step op rd rs1 rs2 at h h1 h2 =
      step_at (Reg op rd rs1 rs2) at
      ∙ ap (Goes []) (next_is rd (reg_value op (slice_index (table 32 l.x) rs1) (slice_index (table 32 l.x) rs2)) h at.low)
      ∙ ap (λ (v : ℕ). Goes [] (state_of parts (with_x l (set l.x rd (reg_value op v (slice_index (table 32 l.x) rs2)))) (pc + 4))) (table_at 32 l.x rs1 h1)
      ∙ ap (λ (v : ℕ). Goes [] (state_of parts (with_x l (set l.x rd (reg_value op (l.x rs1) v))) (pc + 4))) (table_at 32 l.x rs2 h2)

  pub imm_step : (op : ImmOp) (rd rs1 : ℕ) (z : ℤ) → At parts pc (Imm op rd rs1 z) → rd < 32 → rs1 < 32
      → detailed_step parts (state_of parts l pc) ≡ Goes [] (state_of parts (with_x l (set l.x rd (reg_value (reg_form op) (l.x rs1) (word_of z)))) (pc + 4))
  imm_step op rd rs1 z at h h1 =
      step_at (Imm op rd rs1 z) at
      ∙ ap (Goes []) (next_is rd (reg_value (reg_form op) (slice_index (table 32 l.x) rs1) (word_of z)) h at.low)
      ∙ ap (λ (v : ℕ). Goes [] (state_of parts (with_x l (set l.x rd (reg_value (reg_form op) v (word_of z)))) (pc + 4))) (table_at 32 l.x rs1 h1)

  pub auipc_step : (rd upper : ℕ) → At parts pc (Auipc rd upper) → rd < 32
      → detailed_step parts (state_of parts l pc) ≡ Goes [] (state_of parts (with_x l (set l.x rd ((pc + upper * 2 ^ 12) % 2 ^ 32))) (pc + 4))
  auipc_step rd upper at h = step_at (Auipc rd upper) at ∙ ap (Goes []) (next_is rd ((pc + upper * 2 ^ 12) % 2 ^ 32) h at.low)

  -- a jump through a register to a multiple of 4
  pub jalr_step : (rd rs1 : ℕ) (z : ℤ) (target : ℕ) → At parts pc (Jalr rd rs1 z) → rd < 32 → rs1 < 32 → moved (l.x rs1) z ≡ target → target % 4 ≡ 0
      → detailed_step parts (state_of parts l pc) ≡ Goes [] (state_of parts (with_x l (set l.x rd (pc + 4))) target)
  jalr_step rd rs1 z target at h h1 e r =
      let here : moved (slice_index (table 32 l.x) rs1) z ≡ target = ap (λ v. moved v z) (table_at 32 l.x rs1 h1) ∙ e in
      let even : target - target % 2 ≡ target = omega arith in
      let there : moved (slice_index (table 32 l.x) rs1) z - moved (slice_index (table 32 l.x) rs1) z % 2 ≡ target = ap (λ t. t - t % 2) here ∙ even in
      let good : (target % 4 == 0) ≡ true = grind (arith, nat_tests) in
      step_at (Jalr rd rs1 z) at
      ∙ ap (λ t. let o : Outcome = if t % 4 == 0 then outcome.Next rd (following pc) t else outcome.BadTarget in with_writes (writes_of o) (by_outcome (state_of parts l pc) o)) there
      ∙ ap (λ b. let o : Outcome = if b then outcome.Next rd (following pc) target else outcome.BadTarget in with_writes (writes_of o) (by_outcome (state_of parts l pc) o)) good
      ∙ ap (λ (x : List ℕ). Goes [] (let s : State = record { x = x; pc = target; memory = memory_of parts l.bytes l.words; input = l.input } in s)) (set_table l.x rd (following pc) h)
      ∙ ap (λ v. Goes [] (state_of parts (with_x l (set l.x rd v)) target)) (next_pc at.low)

  -- a jump without a link to a multiple of 4
  pub jal_step : (z : ℤ) (target : ℕ) → At parts pc (Jal 0 z) → moved pc z ≡ target → target % 4 ≡ 0
      → detailed_step parts (state_of parts l pc) ≡ Goes [] (state_of parts l target)
  jal_step z target at m r =
      let good : (target % 4 == 0) ≡ true = grind (arith, nat_tests) in
      step_at (Jal 0 z) at
      ∙ ap (λ t. let o : Outcome = if t % 4 == 0 then outcome.Next 0 (following pc) t else outcome.BadTarget in with_writes (writes_of o) (by_outcome (state_of parts l pc) o)) m
      ∙ ap (λ b. let o : Outcome = if b then outcome.Next 0 (following pc) target else outcome.BadTarget in with_writes (writes_of o) (by_outcome (state_of parts l pc) o)) good

  taken_is : (op : BranchOp) (rs1 rs2 : ℕ) (b : Bool) → rs1 < 32 → rs2 < 32 → is_taken op (l.x rs1) (l.x rs2) ≡ b
      → is_taken op (slice_index (table 32 l.x) rs1) (slice_index (table 32 l.x) rs2) ≡ b
  taken_is op rs1 rs2 b h1 h2 e =
      ap (λ v. is_taken op v (slice_index (table 32 l.x) rs2)) (table_at 32 l.x rs1 h1) ∙ ap (is_taken op (l.x rs1)) (table_at 32 l.x rs2 h2) ∙ e

  pub branch_taken : (op : BranchOp) (rs1 rs2 : ℕ) (z : ℤ) (target : ℕ) → At parts pc (Branch op rs1 rs2 z) → rs1 < 32 → rs2 < 32
      → is_taken op (l.x rs1) (l.x rs2) ≡ true → moved pc z ≡ target → target % 4 ≡ 0
      → detailed_step parts (state_of parts l pc) ≡ Goes [] (state_of parts l target)
  branch_taken op rs1 rs2 z target at h1 h2 e m r =
      let good : (target % 4 == 0) ≡ true = grind (arith, nat_tests) in
      step_at (Branch op rs1 rs2 z) at
      ∙ ap (λ b. let o : Outcome = if b then (if moved pc z % 4 == 0 then outcome.Next 0 0 (moved pc z) else outcome.BadTarget) else outcome.Next 0 0 (following pc) in with_writes (writes_of o) (by_outcome (state_of parts l pc) o)) (taken_is op rs1 rs2 true h1 h2 e)
      ∙ ap (λ t. let o : Outcome = if t % 4 == 0 then outcome.Next 0 0 t else outcome.BadTarget in with_writes (writes_of o) (by_outcome (state_of parts l pc) o)) m
      ∙ ap (λ b. let o : Outcome = if b then outcome.Next 0 0 target else outcome.BadTarget in with_writes (writes_of o) (by_outcome (state_of parts l pc) o)) good

  pub branch_passed : (op : BranchOp) (rs1 rs2 : ℕ) (z : ℤ) → At parts pc (Branch op rs1 rs2 z) → rs1 < 32 → rs2 < 32
      → is_taken op (l.x rs1) (l.x rs2) ≡ false
      → detailed_step parts (state_of parts l pc) ≡ Goes [] (state_of parts l (pc + 4))
  branch_passed op rs1 rs2 z at h1 h2 e =
      step_at (Branch op rs1 rs2 z) at
      ∙ ap (λ b. let o : Outcome = if b then (if moved pc z % 4 == 0 then outcome.Next 0 0 (moved pc z) else outcome.BadTarget) else outcome.Next 0 0 (following pc) in with_writes (writes_of o) (by_outcome (state_of parts l pc) o)) (taken_is op rs1 rs2 false h1 h2 e)
      ∙ ap (λ q. Goes [] (state_of parts l q)) (next_pc at.low)

  -- a load, if its address is aligned and there
  pub load_step : (op : LoadOp) (rd rs1 : ℕ) (z : ℤ) (a n : ℕ) → At parts pc (Load op rd rs1 z) → rd < 32 → rs1 < 32
      → moved (l.x rs1) z ≡ a → a % load_bytes op ≡ 0 → loaded (memory_of parts l.bytes l.words) (load_bytes op) a ≡ Some n
      → detailed_step parts (state_of parts l pc) ≡ Goes [] (state_of parts (with_x l (set l.x rd (load_value op n))) (pc + 4))
  load_step op rd rs1 z a n at h h1 e r there =
      let here : moved (slice_index (table 32 l.x) rs1) z ≡ a = ap (λ v. moved v z) (table_at 32 l.x rs1 h1) ∙ e in
      let good : (a % load_bytes op == 0) ≡ true = grind (arith, nat_tests) in
      let s : State = state_of parts l pc in
      step_at (Load op rd rs1 z) at
      ∙ ap (λ t. with_writes [] (if t % load_bytes op == 0 then loads s op rd (loaded s.memory (load_bytes op) t) else faults 2 s)) here
      ∙ ap (λ b. with_writes [] (if b then loads s op rd (loaded s.memory (load_bytes op) a) else faults 2 s)) good
      ∙ ap (λ o. with_writes [] (loads s op rd o)) there
      ∙ ap (Goes []) (next_is rd (load_value op n) h at.low)

  writable : (a : ℕ) → data_start ≤ a → a < memory_end → is_writable a ≡ true
  writable a low high = grind (arith, nat_tests)

  -- a store, if its address is aligned and may be written
  pub store_step : (op : StoreOp) (rs1 rs2 : ℕ) (z : ℤ) (a : ℕ) (bytes words : ℕ → ℕ) → At parts pc (Store op rs1 rs2 z) → rs1 < 32 → rs2 < 32
      → moved (l.x rs1) z ≡ a → a % store_bytes op ≡ 0 → data_start ≤ a → a < memory_end
      → stored (memory_of parts l.bytes l.words) (store_bytes op) a (l.x rs2) ≡ memory_of parts bytes words
      → detailed_step parts (state_of parts l pc)
      ≡ Goes (Wrote a (store_bytes op) (l.x rs2 % 256 ^ store_bytes op) ∷ []) (state_of parts (record l { bytes = bytes; words = words }) (pc + 4))
  store_step op rs1 rs2 z a bytes words at h1 h2 e r low high there =
      let here : moved (slice_index (table 32 l.x) rs1) z ≡ a = ap (λ v. moved v z) (table_at 32 l.x rs1 h1) ∙ e in
      let good : (a % store_bytes op == 0) ≡ true = grind (arith, nat_tests) in
      let s : State = state_of parts l pc in
      step_at (Store op rs1 rs2 z) at
      ∙ ap (λ t. with_writes (writes_of (outcome.Store op t (slice_index (table 32 l.x) rs2))) (by_outcome s (outcome.Store op t (slice_index (table 32 l.x) rs2)))) here
      ∙ ap (λ v. with_writes (writes_of (outcome.Store op a v)) (by_outcome s (outcome.Store op a v))) (table_at 32 l.x rs2 h2)
      ∙ ap (λ b. with_writes (writes_of (outcome.Store op a (l.x rs2))) (if not b then faults 2 s else if is_writable a then Goes [] (record (next_with s 0 0) { memory = stored s.memory (store_bytes op) a (l.x rs2) }) else faults 4 s)) good
      ∙ ap (λ b. with_writes (writes_of (outcome.Store op a (l.x rs2))) (if b then Goes [] (record (next_with s 0 0) { memory = stored s.memory (store_bytes op) a (l.x rs2) }) else faults 4 s)) (writable a low high)
      ∙ ap (λ (m : Memory). Goes (Wrote a (store_bytes op) (l.x rs2 % 256 ^ store_bytes op) ∷ []) (let s : State = record { x = table 32 l.x; pc = following pc; memory = m; input = l.input } in s)) there
      ∙ ap (λ q. Goes (Wrote a (store_bytes op) (l.x rs2 % 256 ^ store_bytes op) ∷ []) (state_of parts (record l { bytes = bytes; words = words }) q)) (next_pc at.low)

  -- ---- environment calls

  asked : (n : ℕ) → At parts pc Ecall → l.x 17 ≡ n
      → detailed_step parts (state_of parts l pc)
      ≡ with_writes [] (if n == 0 then Halts [] (Ended (register (state_of parts l pc) 10))
      else if n == 1 then Goes (Put (register (state_of parts l pc) 10 % 256) ∷ []) (next_with (state_of parts l pc) 0 0)
      else if n == 2 then gets (state_of parts l pc) l.input
      else if n == 3 then stops (state_of parts l pc) (check_with (register (state_of parts l pc) 10))
      else faults 6 (state_of parts l pc))
  asked n at e =
      let s : State = state_of parts l pc in
      let f : Move Event State → Move MachineEvent State = with_writes [] in
      step_at Ecall at
      ∙ ap (λ (k : ℕ). f (if k == 0 then Halts [] (Ended (register s 10)) else if k == 1 then Goes (Put (register s 10 % 256) ∷ []) (next_with s 0 0)
      else if k == 2 then gets s l.input else if k == 3 then stops s (check_with (register s 10)) else faults 6 s)) (table_at 32 l.x 17 (omega arith) ∙ e)

  pub ends_step : At parts pc Ecall → l.x 17 ≡ 0 → detailed_step parts (state_of parts l pc) ≡ Halts [] (Ended (l.x 10))
  ends_step at e = asked 0 at e ∙ ap (λ v. Halts [] (Ended v)) (table_at 32 l.x 10 (omega arith))

  pub puts_step : At parts pc Ecall → l.x 17 ≡ 1
      → detailed_step parts (state_of parts l pc) ≡ Goes (Outside (Put (l.x 10 % 256)) ∷ []) (state_of parts l (pc + 4))
  puts_step at e =
      asked 1 at e
      ∙ ap (λ v. Goes (Outside (Put (v % 256)) ∷ []) (next_with (state_of parts l pc) 0 0)) (table_at 32 l.x 10 (omega arith))
      ∙ ap (λ q. Goes (Outside (Put (l.x 10 % 256)) ∷ []) (state_of parts l q)) (next_pc at.low)

  pub ends_input : At parts pc Ecall → l.x 17 ≡ 2 → l.input ≡ []
      → detailed_step parts (state_of parts l pc) ≡ Goes (Outside (Got None) ∷ []) (state_of parts (with_x l (set l.x 10 (2 ^ 32 - 1))) (pc + 4))
  ends_input at e f =
      asked 2 at e ∙ ap (λ i. with_writes [] (gets (state_of parts l pc) i)) f
      ∙ ap (Goes (Outside (Got None) ∷ [])) (next_is 10 (2 ^ 32 - 1) (omega arith) at.low)

  pub gets_step : (byte : ℕ) (rest : List ℕ) → At parts pc Ecall → l.x 17 ≡ 2 → l.input ≡ byte ∷ rest
      → detailed_step parts (state_of parts l pc)
      ≡ Goes (Outside (Got (Some byte)) ∷ []) (state_of parts (record l { x = set l.x 10 byte; input = rest }) (pc + 4))
  gets_step byte rest at e f =
      asked 2 at e ∙ ap (λ i. with_writes [] (gets (state_of parts l pc) i)) f
      ∙ ap (λ (s : State). Goes (Outside (Got (Some byte)) ∷ []) (record s { input = rest })) (next_is 10 byte (omega arith) at.low)

  pub stops_step : (check : Check) → At parts pc Ecall → l.x 17 ≡ 3 → check_with (l.x 10) ≡ Some check
      → detailed_step parts (state_of parts l pc) ≡ Halts [] (Stopped check (record { line = l.x 11; col = l.x 12 }))
  stops_step check at e f =
      asked 3 at e
      ∙ ap (λ o. with_writes [] (stops (state_of parts l pc) o)) (ap check_with (table_at 32 l.x 10 (omega arith)) ∙ f)
      ∙ ap (λ v. Halts [] (Stopped check (record { line = v; col = register (state_of parts l pc) 12 }))) (table_at 32 l.x 11 (omega arith))
      ∙ ap (λ v. Halts [] (Stopped check (record { line = l.x 11; col = v }))) (table_at 32 l.x 12 (omega arith))
