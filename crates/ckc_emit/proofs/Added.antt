-- What each piece of lines adds.
use Rattle.std.proofs.Common.{◌≡◌, ℕ, ◌+◌, ◌*◌, ◌%◌, ◌^◌, ◌≤◌, ◌<◌, ◌==◌, ◌||◌, nat_lt, if◌then◌else◌, Bool, true, false, List, ◌∷◌, arith}
use Rattle.std.specs.Prelude.{ℤ, pos}
use Rattle.std.proofs.lemmas.Int.{ints}
use Rattle.std.proofs.lemmas.Bool.Decides.{nat_tests}
use Rattle.ckc_base.specs.declared.places.Pos.{Pos}
use Rattle.ckc_base.specs.declared.arithmetic.BinOp.{BinOp}
use Rattle.ckc_base.specs.declared.arithmetic.BinOp.TheVariants as op
use Rattle.ckc_base.specs.declared.arithmetic.Width.{Width}
use Rattle.ckc_base.specs.declared.runtime_checks.Check.{Check}
use Rattle.ckc_base.specs.Checks.{number_of}
use Rattle.ckc_rv_operations.specs.declared.operations.BranchOp.{BranchOp}
use Rattle.ckc_rv_operations.specs.declared.operations.BranchOp.TheVariants.{Bge, Bltu}
use Rattle.ckc_rv_operations.specs.declared.operations.LoadOp.{LoadOp}
use Rattle.ckc_rv_operations.specs.declared.operations.LoadOp.TheVariants.{Lw}
use Rattle.ckc_rv_operations.specs.declared.operations.StoreOp.{StoreOp}
use Rattle.ckc_rv_operations.specs.declared.operations.StoreOp.TheVariants.{Sw}
use Rattle.ckc_rv_operations.specs.declared.operations.ImmOp.{ImmOp}
use Rattle.ckc_rv_operations.specs.declared.operations.ImmOp.TheVariants.{Addi, Slti, Sltiu, Xori, Ori, Andi, Slli, Srli}
use Rattle.ckc_rv_operations.specs.declared.operations.RegOp.{RegOp}
use Rattle.ckc_rv_operations.specs.declared.operations.RegOp.TheVariants.{Add, Sub, Sltu, Mul, Divu}
use Rattle.ckc_rv.specs.declared.instructions.Instr.TheVariants.{Lui, Branch, Load, Store, Imm, Reg, Ecall}
use Rattle.ckc_rv.specs.Table.{IsSigned, IsCount, InRange}
use Rattle.ckc_emit.specs.declared.places.PlacedOperand.{PlacedOperand}
use Rattle.ckc_emit.specs.declared.places.PlacedOperand.TheVariants.{At, Number}
use Rattle.ckc_emit.specs.declared.operations.Form.{Form}
use Rattle.ckc_emit.specs.declared.operations.Form.TheVariants.{Cleared, Left, Zero, Immediate, Registers}
use Rattle.ckc_emit.specs.code.Operands.{IsOperand}
use Rattle.ckc_asm_lines.specs.declared.lines.Line.{Line}
use Rattle.ckc_asm_lines.specs.declared.lines.Line.TheVariants.{Plain}
use Rattle.ckc_tac.specs.declared.code.Comparison.{Comparison}
use Rattle.ckc_frame.specs.declared.code.Place.{Place}
use Rattle.ckc_frame.specs.declared.code.Place.TheVariants as place
use Rattle.ckc_frame.specs.WellFormed.{IsPlace}
use Rattle.ckc_emit.specs.code.Lines.{upper_of, lower_of, is_round, both_lines, large_lines, constant_lines, constant_count, move_lines, offset_lines, load_lines, store_lines, ask_lines, holding, stop_lines, check_lines, register_of, source_of, read_lines, write_lines, settle_lines, fetch_lines, register_with, operand_lines, take_lines, const_lines, copy_lines, value_lines, operation_of, apply_lines, negated, near_form, zeros_of, power_form, number_form, form_of, is_exchanged, ending_lines, form_lines, bin_lines, high_op, high_lines, load_op, store_op, upper_lines, address_lines, base_with, rest_of, data_load_lines, data_store_lines, test_lines, get_lines, put_lines, tests_lines, room_lines, rounded_lines, claim_lines, alloc_lines}
use Rattle.ckc_tac.specs.Operations.{at_offset}
use Rattle.ckc_emit.proofs.Splits.{upper_small}
use Rattle.ckc_emit.proofs.Pieces.{Labels, Adds, nothing, then_adds, more_adds, plain_adds, either_adds}

-- ---- what fits

lower_fits : (v : ℕ) → IsSigned (2 ^ 11) (lower_of v)
unfolding lower_of
lower_fits v = (grind (arith, ints), grind (arith, ints))

pub near_fits : (n : ℕ) → n < 2048 → IsSigned (2 ^ 11) (pos n)
near_fits n h = (grind (arith, ints), grind (arith, ints))

-- a register of a place is one of x13 to x25
pub register_low : (k : ℕ) → k < 16 → register_of k < 27
register_low k h = grind (arith, nat_tests)

pub source_low : (q : Place) (scratch : ℕ) → IsPlace q → scratch < 27 → source_of q scratch < 27
source_low (place.Reg k) scratch h low = register_low k h
source_low (place.Slot k) scratch h low = low

number_low : (b : Bool) (scratch : ℕ) → scratch < 27 → (if b then 0 else scratch) < 27
number_low true scratch h = omega arith
number_low false scratch h = h

pub with_low : (o : PlacedOperand) (scratch : ℕ) → IsOperand o → scratch < 27 → register_with o scratch < 27
with_low (At q) scratch h low = source_low q scratch h low
with_low (Number n) scratch h low = number_low (n == 0) scratch low

upper_none : (v : ℕ) → v < 2048 → (upper_of v == 0) ≡ false → ⊥
unfolding upper_of
upper_none v h e = grind (arith, nat_tests)

one_or_two : (b : Bool) → (if b then 1 else 2) ≤ 2
one_or_two true = omega arith
one_or_two false = omega arith

round_count : (v : ℕ) → constant_count v ≤ 2
round_count v = one_or_two (upper_of v == 0 || is_round v)

module _ (labels : Labels) (k : ℕ) where
  abbrev Adding : ℕ → List Line → List Line → Type 0
  Adding most xs ys = Adds labels k k most xs ys

  pub lui_adds : (rd upper : ℕ) (ys : List Line) → rd < 27 → upper < 2 ^ 20 → Adding 1 (Plain (Lui rd upper) ∷ ys) ys
  lui_adds rd upper ys h u = plain_adds labels k (Lui rd upper) ys (omega arith, omega arith) h

  addi_adds : (rd rs : ℕ) (z : ℤ) (ys : List Line) → rd < 27 → rs < 27 → IsSigned (2 ^ 11) z → Adding 1 (Plain (Imm Addi rd rs z) ∷ ys) ys
  addi_adds rd rs z ys h i s = plain_adds labels k (Imm Addi rd rs z) ys (omega arith, omega arith, s) (h, i)

  pub reg_adds : (o : RegOp) (rd a b : ℕ) (ys : List Line) → rd < 27 → a < 27 → b < 27 → Adding 1 (Plain (Reg o rd a b) ∷ ys) ys
  reg_adds o rd a b ys h i j = plain_adds labels k (Reg o rd a b) ys (omega arith, omega arith, omega arith) (h, i, j)

  load_adds : (o : LoadOp) (rd rs : ℕ) (z : ℤ) (ys : List Line) → rd < 27 → rs < 27 → IsSigned (2 ^ 11) z → Adding 1 (Plain (Load o rd rs z) ∷ ys) ys
  load_adds o rd rs z ys h i s = plain_adds labels k (Load o rd rs z) ys (omega arith, omega arith, s) (h, i)

  store_adds : (o : StoreOp) (a b : ℕ) (z : ℤ) (ys : List Line) → a < 27 → b < 27 → IsSigned (2 ^ 11) z → Adding 1 (Plain (Store o a b z) ∷ ys) ys
  store_adds o a b z ys h i s = plain_adds labels k (Store o a b z) ys (omega arith, omega arith, s) (h, i)

  pub branch_adds : (o : BranchOp) (a b n : ℕ) (ys : List Line) → a < 27 → b < 27 → n < 500 → Adding 1 (Plain (Branch o a b (pos (n * 4))) ∷ ys) ys
  branch_adds o a b n ys h i s =
      plain_adds labels k (Branch o a b (pos (n * 4))) ys (omega arith, omega arith, ((grind (arith, ints), grind (arith, ints)), omega arith)) (h, i)

  -- ---- constants, moves, and words of frames

  both_adds : (rd v : ℕ) (ys : List Line) → rd < 27 → Adding 2 (both_lines rd v ys) ys
  both_adds rd v ys h = then_adds labels (lui_adds rd (upper_of v) _ h (upper_small v)) (addi_adds rd rd (lower_of v) ys h h (lower_fits v))

  large_adds : (rd v : ℕ) (ys : List Line) → rd < 27 → Adding 2 (large_lines rd v ys) ys
  large_adds rd v ys h =
      either_adds labels (is_round v)
      (λ e. more_adds labels 2 (omega arith) (lui_adds rd (upper_of v) ys h (upper_small v)))
      (λ e. both_adds rd v ys h)

  constant_adds : (rd v : ℕ) (ys : List Line) → rd < 27 → Adding 2 (constant_lines rd v ys) ys
  constant_adds rd v ys h =
      either_adds labels (upper_of v == 0)
      (λ e. more_adds labels 2 (omega arith) (addi_adds rd 0 (lower_of v) ys h (omega arith) (lower_fits v)))
      (λ e. large_adds rd v ys h)

  pub move_adds : (rd rs : ℕ) (ys : List Line) → rd < 27 → rs < 27 → Adding 1 (move_lines rd rs ys) ys
  move_adds rd rs ys h i = addi_adds rd rs (pos 0) ys h i (near_fits 0 (omega arith))

  offset_adds : (frame offset : ℕ) (ys : List Line) → frame < 27 → Adding 2 (offset_lines frame offset ys) ys
  offset_adds frame offset ys h =
      then_adds labels (lui_adds 7 (upper_of offset) _ (omega arith) (upper_small offset)) (reg_adds Add 7 7 frame ys (omega arith) (omega arith) h)

  pub loads_add : (rd frame offset : ℕ) (ys : List Line) → rd < 27 → frame < 27 → Adding 3 (load_lines rd frame offset ys) ys
  loads_add rd frame offset ys h i =
      either_adds labels (nat_lt offset 2048)
      (λ e. more_adds labels 3 (omega arith) (load_adds Lw rd frame (pos offset) ys h i (near_fits offset (grind (arith, nat_tests)))))
      (λ e. then_adds labels (offset_adds frame offset _ i) (load_adds Lw rd 7 (lower_of offset) ys h (omega arith) (lower_fits offset)))

  pub stores_add : (rs frame offset : ℕ) (ys : List Line) → rs < 27 → frame < 27 → Adding 3 (store_lines rs frame offset ys) ys
  stores_add rs frame offset ys h i =
      either_adds labels (nat_lt offset 2048)
      (λ e. more_adds labels 3 (omega arith) (store_adds Sw frame rs (pos offset) ys i h (near_fits offset (grind (arith, nat_tests)))))
      (λ e. then_adds labels (offset_adds frame offset _ i) (store_adds Sw 7 rs (lower_of offset) ys (omega arith) h (lower_fits offset)))

  -- near the beginning of a frame one instruction is enough
  pub near_load_adds : (rd frame offset : ℕ) (ys : List Line) → rd < 27 → frame < 27 → offset < 2048 → Adding 1 (load_lines rd frame offset ys) ys
  near_load_adds rd frame offset ys h i near =
      either_adds labels (nat_lt offset 2048)
      (λ e. load_adds Lw rd frame (pos offset) ys h i (near_fits offset near))
      (λ e. absurd (grind (arith, nat_tests)))

  pub near_store_adds : (rs frame offset : ℕ) (ys : List Line) → rs < 27 → frame < 27 → offset < 2048 → Adding 1 (store_lines rs frame offset ys) ys
  near_store_adds rs frame offset ys h i near =
      either_adds labels (nat_lt offset 2048)
      (λ e. store_adds Sw frame rs (pos offset) ys i h (near_fits offset near))
      (λ e. absurd (grind (arith, nat_tests)))

  -- ---- environment calls and stops

  pub ask_adds : (call : ℕ) (ys : List Line) → Adding 3 (ask_lines call ys) ys
  ask_adds call ys = then_adds labels (constant_adds 17 call _ (omega arith)) (plain_adds labels k Ecall ys tt tt)

  -- a call with a number below 2,048 takes two
  pub two_ask_adds : (call : ℕ) (ys : List Line) → call < 2048 → Adding 2 (ask_lines call ys) ys
  two_ask_adds call ys h =
      then_adds labels
      (either_adds labels (upper_of call == 0)
      (λ e. addi_adds 17 0 (lower_of call) _ (omega arith) (omega arith) (lower_fits call))
      (λ e. absurd (upper_none call h e)))
      (plain_adds labels k Ecall ys tt tt)

  stop_adds : (check : Check) (at : Pos) (ys : List Line) → Adding 9 (stop_lines check at ys) ys
  stop_adds check at ys =
      then_adds labels (constant_adds 10 (number_of check) _ (omega arith))
      (then_adds labels (constant_adds 11 at.line _ (omega arith))
      (then_adds labels (constant_adds 12 at.col _ (omega arith)) (ask_adds 3 ys)))

  pub check_adds : (o : BranchOp) (a b : ℕ) (check : Check) (at : Pos) (ys : List Line) → a < 27 → b < 27 → Adding 10 (check_lines o a b check at ys) ys
  check_adds o a b check at ys h i =
      then_adds labels (branch_adds o a b (constant_count at.line + constant_count at.col + 4) _ h i (omega (arith, round_count at.line, round_count at.col))) (stop_adds check at ys)

  -- ---- places

  pub read_adds : (q : Place) (scratch : ℕ) (ys : List Line) → scratch < 27 → Adding 3 (read_lines q scratch ys) ys
  read_adds (place.Reg j) scratch ys h = more_adds labels 3 (omega arith) (nothing labels k ys)
  read_adds (place.Slot j) scratch ys h = loads_add scratch 2 (j * 4 + 80) ys h (omega arith)

  write_adds : (q : Place) (scratch : ℕ) (ys : List Line) → scratch < 27 → Adding 3 (write_lines q scratch ys) ys
  write_adds (place.Reg j) scratch ys h = more_adds labels 3 (omega arith) (nothing labels k ys)
  write_adds (place.Slot j) scratch ys h = stores_add scratch 2 (j * 4 + 80) ys h (omega arith)

  pub settle_adds : (q : Place) (rs : ℕ) (ys : List Line) → IsPlace q → rs < 27 → Adding 3 (settle_lines q rs ys) ys
  settle_adds (place.Reg j) rs ys p h = more_adds labels 3 (omega arith) (move_adds (register_of j) rs ys (register_low j p) h)
  settle_adds (place.Slot j) rs ys p h = stores_add rs 2 (j * 4 + 80) ys h (omega arith)

  pub fetch_adds : (rd : ℕ) (q : Place) (ys : List Line) → IsPlace q → rd < 27 → Adding 3 (fetch_lines rd q ys) ys
  fetch_adds rd (place.Reg j) ys p h = more_adds labels 3 (omega arith) (move_adds rd (register_of j) ys h (register_low j p))
  fetch_adds rd (place.Slot j) ys p h = loads_add rd 2 (j * 4 + 80) ys h (omega arith)

  -- ---- operands

  number_adds : (b : Bool) (n scratch : ℕ) (ys : List Line) → scratch < 27 → Adding (if b then 0 else 2) (if b then ys else constant_lines scratch n ys) ys
  number_adds true n scratch ys h = nothing labels k ys
  number_adds false n scratch ys h = constant_adds scratch n ys h

  -- how many instructions read an operand
  abbrev pub reading : PlacedOperand → ℕ
  reading (At q) = 3
  reading (Number n) = if n == 0 then 0 else 2

  pub operand_adds : (o : PlacedOperand) (scratch : ℕ) (ys : List Line) → scratch < 27 → Adding (reading o) (operand_lines o scratch ys) ys
  operand_adds (At q) scratch ys h = read_adds q scratch ys h
  operand_adds (Number n) scratch ys h = number_adds (n == 0) n scratch ys h

  none_or_two : (b : Bool) → (if b then 0 else 2) ≤ 3
  none_or_two true = omega arith
  none_or_two false = omega arith

  pub reading_few : (o : PlacedOperand) → reading o ≤ 3
  reading_few (At q) = omega arith
  reading_few (Number n) = none_or_two (n == 0)

  three_adds : (o : PlacedOperand) (scratch : ℕ) (ys : List Line) → scratch < 27 → Adding 3 (operand_lines o scratch ys) ys
  three_adds o scratch ys h = more_adds labels 3 (reading_few o) (operand_adds o scratch ys h)

  pub take_adds : (rd : ℕ) (o : PlacedOperand) (ys : List Line) → IsOperand o → rd < 27 → Adding 3 (take_lines rd o ys) ys
  take_adds rd (At q) ys p h = fetch_adds rd q ys p h
  take_adds rd (Number n) ys p h = more_adds labels 3 (omega arith) (constant_adds rd n ys h)

  -- ---- operations

  pub const_adds : (t : Place) (v : ℕ) (ys : List Line) → IsPlace t → Adding 5 (const_lines t v ys) ys
  const_adds t v ys p = then_adds labels (constant_adds (source_of t 5) v _ (source_low t 5 p (omega arith))) (write_adds t 5 ys (omega arith))

  pub copy_adds : (t a : Place) (ys : List Line) → IsPlace t → IsPlace a → Adding 6 (copy_lines t a ys) ys
  copy_adds t (place.Reg j) ys p q = more_adds labels 6 (omega arith) (settle_adds t (register_of j) ys p (register_low j q))
  copy_adds t (place.Slot j) ys p q =
      then_adds labels (loads_add (source_of t 5) 2 (j * 4 + 80) _ (source_low t 5 p (omega arith)) (omega arith)) (write_adds t 5 ys (omega arith))

  value_adds : (t : Place) (a : PlacedOperand) (ys : List Line) → IsPlace t → IsOperand a → Adding 6 (value_lines t a ys) ys
  value_adds t (At q) ys p r = copy_adds t q ys p r
  value_adds t (Number n) ys p r = more_adds labels 6 (omega arith) (const_adds t n ys p)

  one_adds : (o : BinOp) (rd a b : ℕ) (ys : List Line) → rd < 27 → a < 27 → b < 27 → Adding 2 (Plain (Reg (operation_of o) rd a b) ∷ ys) ys
  one_adds o rd a b ys h i j = more_adds labels 2 (omega arith) (reg_adds (operation_of o) rd a b ys h i j)

  apply_adds : (o : BinOp) (rd a b : ℕ) (ys : List Line) → rd < 27 → a < 27 → b < 27 → Adding 2 (apply_lines o rd a b ys) ys
  apply_adds op.Eq rd a b ys h i j =
      then_adds labels (reg_adds Sub rd a b _ h i j) (plain_adds labels k (Imm Sltiu rd rd (pos 1)) ys (omega arith, omega arith, near_fits 1 (omega arith)) (h, h))
  apply_adds op.Ne rd a b ys h i j = then_adds labels (reg_adds Sub rd a b _ h i j) (reg_adds Sltu rd 0 rd ys h (omega arith) h)
  apply_adds op.Add rd a b ys h i j = one_adds op.Add rd a b ys h i j
  apply_adds op.Sub rd a b ys h i j = one_adds op.Sub rd a b ys h i j
  apply_adds op.Mul rd a b ys h i j = one_adds op.Mul rd a b ys h i j
  apply_adds op.DivS rd a b ys h i j = one_adds op.DivS rd a b ys h i j
  apply_adds op.DivU rd a b ys h i j = one_adds op.DivU rd a b ys h i j
  apply_adds op.RemS rd a b ys h i j = one_adds op.RemS rd a b ys h i j
  apply_adds op.RemU rd a b ys h i j = one_adds op.RemU rd a b ys h i j
  apply_adds op.And rd a b ys h i j = one_adds op.And rd a b ys h i j
  apply_adds op.Or rd a b ys h i j = one_adds op.Or rd a b ys h i j
  apply_adds op.Xor rd a b ys h i j = one_adds op.Xor rd a b ys h i j
  apply_adds op.Shl rd a b ys h i j = one_adds op.Shl rd a b ys h i j
  apply_adds op.ShrS rd a b ys h i j = one_adds op.ShrS rd a b ys h i j
  apply_adds op.ShrU rd a b ys h i j = one_adds op.ShrU rd a b ys h i j
  apply_adds op.LtS rd a b ys h i j = one_adds op.LtS rd a b ys h i j
  apply_adds op.LtU rd a b ys h i j = one_adds op.LtU rd a b ys h i j

  no_ending : (ys : List Line) → Adding 1 ys ys
  no_ending ys = more_adds labels 1 (omega arith) (nothing labels k ys)

  ending_adds : (o : BinOp) (rd rs : ℕ) (ys : List Line) → rd < 27 → rs < 27 → Adding 1 (ending_lines o rd rs ys) ys
  ending_adds op.Eq rd rs ys h i = plain_adds labels k (Imm Sltiu rd rs (pos 1)) ys (omega arith, omega arith, near_fits 1 (omega arith)) (h, i)
  ending_adds op.Ne rd rs ys h i = reg_adds Sltu rd 0 rs ys h (omega arith) i
  ending_adds op.Add rd rs ys h i = no_ending ys
  ending_adds op.Sub rd rs ys h i = no_ending ys
  ending_adds op.Mul rd rs ys h i = no_ending ys
  ending_adds op.DivS rd rs ys h i = no_ending ys
  ending_adds op.DivU rd rs ys h i = no_ending ys
  ending_adds op.RemS rd rs ys h i = no_ending ys
  ending_adds op.RemU rd rs ys h i = no_ending ys
  ending_adds op.And rd rs ys h i = no_ending ys
  ending_adds op.Or rd rs ys h i = no_ending ys
  ending_adds op.Xor rd rs ys h i = no_ending ys
  ending_adds op.Shl rd rs ys h i = no_ending ys
  ending_adds op.ShrS rd rs ys h i = no_ending ys
  ending_adds op.ShrU rd rs ys h i = no_ending ys
  ending_adds op.LtS rd rs ys h i = no_ending ys
  ending_adds op.LtU rd rs ys h i = no_ending ys

  -- an immediate fits its instruction
  abbrev Fits : Form → Type 0
  Fits (Immediate i n) = (rd rs : ℕ) → rd < 27 → rs < 27 → InRange (Imm i rd rs (lower_of n))
  Fits form = Unit {0}

  form_adds : (form : Form) (o : BinOp) (t : Place) (a b : PlacedOperand) (ys : List Line) → Fits form → IsPlace t → IsOperand a → IsOperand b → Adding 11 (form_lines form o t a b ys) ys
  form_adds Cleared o t a b ys fits p q r = more_adds labels 11 (omega arith) (const_adds t 0 ys p)
  form_adds Left o t a b ys fits p q r = more_adds labels 11 (omega arith) (value_adds t a ys p q)
  form_adds Zero o t a b ys fits p q r =
      more_adds labels 11 (omega arith)
      (then_adds labels (three_adds a 5 _ (omega arith))
      (then_adds labels (ending_adds o (source_of t 5) (register_with a 5) _ (source_low t 5 p (omega arith)) (with_low a 5 q (omega arith)))
      (write_adds t 5 ys (omega arith))))
  form_adds (Immediate m n) o t a b ys fits p q r =
      let h : source_of t 5 < 27 = source_low t 5 p (omega arith) in
      let i : register_with a 5 < 27 = with_low a 5 q (omega arith) in
      more_adds labels 11 (omega arith)
      (then_adds labels (three_adds a 5 _ (omega arith))
      (then_adds labels (plain_adds labels k (Imm m (source_of t 5) (register_with a 5) (lower_of n)) _ (fits (source_of t 5) (register_with a 5) h i) (h, i))
      (then_adds labels (ending_adds o (source_of t 5) (source_of t 5) _ h h) (write_adds t 5 ys (omega arith)))))
  form_adds Registers o t a b ys fits p q r =
      then_adds labels (three_adds a 5 _ (omega arith))
      (then_adds labels (three_adds b 6 _ (omega arith))
      (then_adds labels (apply_adds o (source_of t 5) (register_with a 5) (register_with b 6) _ (source_low t 5 p (omega arith)) (with_low a 5 q (omega arith)) (with_low b 6 r (omega arith)))
      (write_adds t 5 ys (omega arith))))

  shift_fits : (n : ℕ) → n < 32 → IsCount (lower_of n)
  unfolding lower_of
  shift_fits n h = (grind (arith, ints), grind (arith, ints))

  near_form_fits : (b : Bool) (i : ImmOp) (n : ℕ) → ((rd rs : ℕ) → rd < 27 → rs < 27 → InRange (Imm i rd rs (lower_of n))) → Fits (if b then Immediate i n else Registers)
  near_form_fits true i n h = h
  near_form_fits false i n h = tt

  either_fits : (b : Bool) (f g : Form) → Fits f → Fits g → Fits (if b then f else g)
  either_fits true f g h i = h
  either_fits false f g h i = i

  addi_fits : (n : ℕ) → Fits (near_form Addi n)
  addi_fits n = near_form_fits (upper_of n == 0) Addi n (λ rd rs h i. (omega arith, omega arith, lower_fits n))

  power_fits : (n : ℕ) → Fits (power_form n)
  power_fits n = near_form_fits (n == 2 ^ zeros_of n) Slli (zeros_of n) (λ rd rs h i. (omega arith, omega arith, shift_fits (zeros_of n) (omega arith)))

  number_fits : (o : BinOp) (n : ℕ) → Fits (number_form o n)
  number_fits op.Add n = addi_fits n
  number_fits op.Sub n = addi_fits (negated n)
  number_fits op.And n = near_form_fits (upper_of n == 0) Andi n (λ rd rs h i. (omega arith, omega arith, lower_fits n))
  number_fits op.Or n = near_form_fits (upper_of n == 0) Ori n (λ rd rs h i. (omega arith, omega arith, lower_fits n))
  number_fits op.Xor n = near_form_fits (upper_of n == 0) Xori n (λ rd rs h i. (omega arith, omega arith, lower_fits n))
  number_fits op.LtS n = near_form_fits (upper_of n == 0) Slti n (λ rd rs h i. (omega arith, omega arith, lower_fits n))
  number_fits op.LtU n = near_form_fits (upper_of n == 0) Sltiu n (λ rd rs h i. (omega arith, omega arith, lower_fits n))
  number_fits op.Shl n = λ rd rs h i. (omega arith, omega arith, shift_fits (n % 32) (omega arith))
  number_fits op.ShrS n = λ rd rs h i. (omega arith, omega arith, shift_fits (n % 32) (omega arith))
  number_fits op.ShrU n = λ rd rs h i. (omega arith, omega arith, shift_fits (n % 32) (omega arith))
  number_fits op.Eq n = either_fits (n == 0) Zero (near_form Addi (negated n)) tt (addi_fits (negated n))
  number_fits op.Ne n = either_fits (n == 0) Zero (near_form Addi (negated n)) tt (addi_fits (negated n))
  number_fits op.Mul n = either_fits (n == 0) Cleared (if n == 1 then Left else power_form n) tt (either_fits (n == 1) Left (power_form n) tt (power_fits n))
  number_fits op.DivS n = tt
  number_fits op.DivU n = tt
  number_fits op.RemS n = tt
  number_fits op.RemU n = tt

  form_fits : (o : BinOp) (b : PlacedOperand) → Fits (form_of o b)
  form_fits o (At q) = tt
  form_fits o (Number n) = number_fits o n

  pub bin_adds : (o : BinOp) (t : Place) (a b : PlacedOperand) (ys : List Line) → IsPlace t → IsOperand a → IsOperand b → Adding 11 (bin_lines o t a b ys) ys
  bin_adds o t a b ys p q r =
      either_adds labels (is_exchanged o a b) (λ e. form_adds (form_of o a) o t b a ys (form_fits o a) p r q) (λ e. form_adds (form_of o b) o t a b ys (form_fits o b) p q r)

  pub high_adds : (s : Bool) (t : Place) (a b : PlacedOperand) (ys : List Line) → IsPlace t → IsOperand a → IsOperand b → Adding 11 (high_lines s t a b ys) ys
  high_adds s t a b ys p q r =
      more_adds labels 11 (omega arith)
      (then_adds labels (three_adds a 5 _ (omega arith))
      (then_adds labels (three_adds b 6 _ (omega arith))
      (then_adds labels (reg_adds (high_op s) (source_of t 5) (register_with a 5) (register_with b 6) _ (source_low t 5 p (omega arith)) (with_low a 5 q (omega arith)) (with_low b 6 r (omega arith)))
      (write_adds t 5 ys (omega arith)))))

  -- addresses with an offset
  upper_adds : (v scratch : ℕ) (ys : List Line) → scratch < 27 → Adding 1 (upper_lines v scratch ys) ys
  upper_adds v scratch ys h =
      either_adds labels (upper_of v == 0) (λ e. more_adds labels 1 (omega arith) (nothing labels k ys)) (λ e. lui_adds scratch (upper_of v) ys h (upper_small v))

  address_adds : (a : PlacedOperand) (offset scratch : ℕ) (ys : List Line) → scratch < 27 → Adding 3 (address_lines a offset scratch ys) ys
  address_adds (At q) offset scratch ys h = read_adds q scratch ys h
  address_adds (Number n) offset scratch ys h = more_adds labels 3 (omega arith) (upper_adds (at_offset n offset) scratch ys h)

  base_low : (a : PlacedOperand) (offset scratch : ℕ) → IsOperand a → scratch < 27 → base_with a offset scratch < 27
  base_low (At q) offset scratch h low = source_low q scratch h low
  base_low (Number n) offset scratch h low = number_low (upper_of (at_offset n offset) == 0) scratch low

  rest_fits : (a : PlacedOperand) (offset : ℕ) → IsSigned (2 ^ 11) (rest_of a offset)
  rest_fits (At q) offset = lower_fits offset
  rest_fits (Number n) offset = lower_fits (at_offset n offset)

  pub data_load_adds : (width : Width) (t : Place) (a : PlacedOperand) (offset : ℕ) (ys : List Line) → IsPlace t → IsOperand a → Adding 7 (data_load_lines width t a offset ys) ys
  data_load_adds width t a offset ys p q =
      then_adds labels (address_adds a offset 5 _ (omega arith))
      (then_adds labels (load_adds (load_op width) (source_of t 5) (base_with a offset 5) (rest_of a offset) _ (source_low t 5 p (omega arith)) (base_low a offset 5 q (omega arith)) (rest_fits a offset))
      (write_adds t 5 ys (omega arith)))

  pub data_store_adds : (width : Width) (a : PlacedOperand) (offset : ℕ) (b : PlacedOperand) (ys : List Line) → IsOperand a → IsOperand b → Adding 7 (data_store_lines width a offset b ys) ys
  data_store_adds width a offset b ys p q =
      then_adds labels (address_adds a offset 5 _ (omega arith))
      (then_adds labels (three_adds b 6 _ (omega arith))
      (store_adds (store_op width) (base_with a offset 5) (register_with b 6) (rest_of a offset) ys (base_low a offset 5 p (omega arith)) (with_low b 6 q (omega arith)) (rest_fits a offset)))

  pub test_adds : (check : Check) (at : Pos) (c : Comparison) (a b : PlacedOperand) (ys : List Line) → IsOperand a → IsOperand b
      → Adding (reading a + reading b + 10) (test_lines check at c a b ys) ys
  test_adds check at c a b ys p q =
      more_adds labels (reading a + reading b + 10) (omega arith)
      (then_adds labels (operand_adds a 5 _ (omega arith))
      (then_adds labels (operand_adds b 6 _ (omega arith))
      (check_adds (holding c) (register_with a 5) (register_with b 6) check at ys (with_low a 5 p (omega arith)) (with_low b 6 q (omega arith)))))

  pub get_adds : (t : Place) (ys : List Line) → IsPlace t → Adding 6 (get_lines t ys) ys
  get_adds t ys p = then_adds labels (ask_adds 2 _) (settle_adds t 10 ys p (omega arith))

  pub put_adds : (a : PlacedOperand) (ys : List Line) → IsOperand a → Adding 7 (put_lines a ys) ys
  put_adds a ys p = more_adds labels 7 (omega arith) (then_adds labels (take_adds 10 a _ p (omega arith)) (ask_adds 1 ys))

  -- ---- an Alloc

  tests_add : (ys : List Line) → Adding 6 (tests_lines ys) ys
  tests_add ys =
      then_adds labels (addi_adds 10 0 (pos 0) _ (omega arith) (omega arith) (near_fits 0 (omega arith)))
      (then_adds labels (branch_adds Bge 0 5 12 _ (omega arith) (omega arith) (omega arith))
      (then_adds labels (branch_adds Bltu 1 4 11 _ (omega arith) (omega arith) (omega arith))
      (then_adds labels (reg_adds Sub 1 1 4 _ (omega arith) (omega arith) (omega arith))
      (then_adds labels (reg_adds Divu 1 1 6 _ (omega arith) (omega arith) (omega arith)) (branch_adds Bltu 1 5 8 ys (omega arith) (omega arith) (omega arith))))))

  room_adds : (ys : List Line) → Adding 9 (room_lines ys) ys
  room_adds ys =
      then_adds labels (lui_adds 3 0x2000 _ (omega arith) (omega arith))
      (then_adds labels (load_adds Lw 4 3 (pos 0) _ (omega arith) (omega arith) (near_fits 0 (omega arith)))
      (then_adds labels (lui_adds 1 0x3000 _ (omega arith) (omega arith)) (tests_add ys)))

  shift_adds : (rd rs n : ℕ) (ys : List Line) → rd < 27 → rs < 27 → n < 32 → Adding 1 (Plain (Imm Srli rd rs (pos n)) ∷ ys) ys
  shift_adds rd rs n ys h i s = plain_adds labels k (Imm Srli rd rs (pos n)) ys (omega arith, omega arith, (grind (arith, ints), grind (arith, ints))) (h, i)

  shift_back_adds : (rd rs n : ℕ) (ys : List Line) → rd < 27 → rs < 27 → n < 32 → Adding 1 (Plain (Imm Slli rd rs (pos n)) ∷ ys) ys
  shift_back_adds rd rs n ys h i s = plain_adds labels k (Imm Slli rd rs (pos n)) ys (omega arith, omega arith, (grind (arith, ints), grind (arith, ints))) (h, i)

  rounded_adds : (ys : List Line) → Adding 3 (rounded_lines ys) ys
  rounded_adds ys =
      then_adds labels (shift_adds 5 5 3 _ (omega arith) (omega arith) (omega arith))
      (then_adds labels (shift_back_adds 5 5 3 _ (omega arith) (omega arith) (omega arith)) (store_adds Sw 3 5 (pos 0) ys (omega arith) (omega arith) (near_fits 0 (omega arith))))

  claim_adds : (ys : List Line) → Adding 7 (claim_lines ys) ys
  claim_adds ys =
      then_adds labels (addi_adds 10 4 (pos 0) _ (omega arith) (omega arith) (near_fits 0 (omega arith)))
      (then_adds labels (reg_adds Mul 5 5 6 _ (omega arith) (omega arith) (omega arith))
      (then_adds labels (reg_adds Add 5 5 4 _ (omega arith) (omega arith) (omega arith))
      (then_adds labels (addi_adds 5 5 (pos 15) _ (omega arith) (omega arith) (near_fits 15 (omega arith))) (rounded_adds ys))))

  pub alloc_adds : (t : Place) (a : PlacedOperand) (size : ℕ) (ys : List Line) → IsPlace t → IsOperand a → Adding 32 (alloc_lines t a size ys) ys
  alloc_adds t a size ys p q =
      more_adds labels 32 (omega arith)
      (then_adds labels (take_adds 5 a _ q (omega arith))
      (then_adds labels (constant_adds 6 size _ (omega arith))
      (then_adds labels (room_adds _) (then_adds labels (claim_adds _) (settle_adds t 10 ys p (omega arith))))))
