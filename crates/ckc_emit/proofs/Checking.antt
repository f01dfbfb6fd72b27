-- Checks: they pass, or the machine stops at them.
use Rattle.std.proofs.Common.{◌≡◌, ◌≢◌, ℕ, ◌+◌, ◌*◌, ◌^◌, ◌≤◌, ◌<◌, ◌==◌, not, ◌||◌, if◌then◌else◌, Bool, true, false, List, [], ◌∷◌, Some, refl, ap, subst, ◌∙◌, arith}
use Rattle.std.specs.Prelude.{pos, nat_lt, int_lt}
use Rattle.std.proofs.lemmas.Bool.Decides.{nat_tests}
use Rattle.ckc_base.specs.declared.places.Pos.{Pos}
use Rattle.ckc_base.specs.declared.runtime_checks.Check.{Check}
use Rattle.ckc_base.specs.declared.runtime_checks.Check.TheVariants as check
use Rattle.ckc_base.specs.Checks.{number_of as check_number, check_with}
use Rattle.ckc_base.specs.Traces.{Stopped}
use Rattle.ckc_rv_operations.specs.declared.operations.BranchOp.{BranchOp}
use Rattle.ckc_rv_operations.specs.declared.operations.BranchOp.TheVariants.{Bne}
use Rattle.ckc_rv.specs.declared.instructions.Instr.{Instr}
use Rattle.ckc_rv.specs.declared.instructions.Instr.TheVariants.{Ecall, Lui}
use Rattle.ckc_rv.specs.Effects.{moved, is_taken}
use Rattle.ckc_rv.specs.Machine.{data_start}
use Rattle.ckc_base.proofs.Travelling.{one_travel}
use Rattle.ckc_rv.specs.Detailed.{detailed_system}
use Rattle.ckc_base.specs.Words.{signed, flag, applied}
use Rattle.ckc_tac.specs.declared.code.Comparison.{Comparison}
use Rattle.ckc_tac.specs.declared.code.Comparison.TheVariants.{LtS, LtU, Eq, Ne}
use Rattle.ckc_tac.specs.Operations.{operation_of}
use Rattle.ckc_asm_lines.specs.declared.lines.Line.{Line}
use Rattle.ckc_asm_lines.specs.declared.lines.Line.TheVariants as line
use Rattle.ckc_emit.specs.code.Lines.{holding, upper_of, is_round, constant_lines, constant_count, ask_lines, stop_lines, over_stop_of, check_lines, add_lower_of}
use Rattle.ckc_emit.proofs.Local.{Local, state_of}
use Rattle.ckc_emit.proofs.Steps.{branch_taken, branch_passed, stops_step}
use Rattle.ckc_emit.proofs.Paths.{Code, LinesAt, Path, Halting, straight, halt_at, then_halting}
use Rattle.ckc_emit.proofs.FrameWords.{constant_sets}

flag_is : (b : Bool) → b ≡ not (flag b == 0)
flag_is true = refl
flag_is false = refl

-- the branch of a comparison, by its value
pub holding_is : (o : Comparison) (x y : ℕ) → is_taken (holding o) x y ≡ not (applied (operation_of o) x y == 0)
holding_is LtS x y = flag_is (int_lt (signed x) (signed y))
holding_is LtU x y = flag_is (nat_lt x y)
holding_is Eq x y = flag_is (x == y)
holding_is Ne x y = flag_is (not (x == y))

upper_zero : (n : ℕ) → n < 2048 → upper_of n ≡ 0
unfolding upper_of
upper_zero n h = omega arith

check_below : (k : Check) → check_number k < 2048
check_below check.Null = omega arith
check_below check.Bounds = omega arith
check_below check.Terminator = omega arith
check_below check.Arith = omega arith
check_below check.Divide = omega arith
check_below check.Cast = omega arith
check_below check.Dynamic = omega arith
check_below check.Depth = omega arith

check_found : (k : Check) → check_with (check_number k) ≡ Some k
check_found check.Null = refl
check_found check.Bounds = refl
check_found check.Terminator = refl
check_found check.Arith = refl
check_found check.Divide = refl
check_found check.Cast = refl
check_found check.Dynamic = refl
check_found check.Depth = refl

small_count : (n : ℕ) → n < 2048 → constant_count n ≡ 1
small_count n h = ap (λ u. if u == 0 || is_round n then 1 else 2) (upper_zero n h)

module _ (c : Code) where
  -- the lines after those that set a register
  skip_by : (pc : ℕ) (i j k m : Instr) (rest : List Line) (a b : Bool)
      → LinesAt c pc (if a then line.Plain i ∷ rest else (if b then line.Plain j ∷ rest else (line.Plain k ∷ line.Plain m ∷ rest))) → LinesAt c (pc + (if a || b then 1 else 2) * 4) rest
  skip_by pc i j k m rest true b at = at.1
  skip_by pc i j k m rest false true at = at.1
  skip_by pc i j k m rest false false at = subst (λ q. LinesAt c q rest) (let e : pc + 4 + 4 ≡ pc + 8 = omega arith in e) at.1.1

  skip_constant : (pc rd v : ℕ) (rest : List Line) → LinesAt c pc (constant_lines rd v rest) → LinesAt c (pc + constant_count v * 4) rest
  skip_constant pc rd v rest at = skip_by pc (add_lower_of rd 0 v) (Lui rd (upper_of v)) (Lui rd (upper_of v)) (add_lower_of rd rd v) rest (upper_of v == 0) (is_round v) at

  skip_stop : (pc : ℕ) (k : Check) (at : Pos) (rest : List Line) → LinesAt c pc (stop_lines k at rest) → LinesAt c (pc + (constant_count at.line + constant_count at.col + 3) * 4) rest
  skip_stop pc k at rest h =
      let one = skip_constant pc 10 (check_number k) (constant_lines 11 at.line (constant_lines 12 at.col (ask_lines 3 rest))) h in
      let two = skip_constant (pc + constant_count (check_number k) * 4) 11 at.line (constant_lines 12 at.col (ask_lines 3 rest)) one in
      let three = skip_constant (pc + constant_count (check_number k) * 4 + constant_count at.line * 4) 12 at.col (ask_lines 3 rest) two in
      let four = skip_constant (pc + constant_count (check_number k) * 4 + constant_count at.line * 4 + constant_count at.col * 4) 17 3 (line.Plain Ecall ∷ rest) three in
      let first = small_count (check_number k) (check_below k) in
      let last = small_count 3 (omega arith) in
      subst (λ q. LinesAt c q rest) (omega arith) four.1

  pub bne_taken : (x y : ℕ) → x ≢ y → is_taken Bne x y ≡ true
  bne_taken x y h = grind (arith, nat_tests)

  pub bne_passed : (x y : ℕ) → x ≡ y → is_taken Bne x y ≡ false
  bne_passed x y h = grind (arith, nat_tests)

  over_word : (pc n : ℕ) → pc + 4 ≤ data_start → n ≤ 8 → moved pc (pos (n * 4)) ≡ pc + n * 4
  over_word pc n h k = omega arith

  count_small : (v : ℕ) → constant_count v ≤ 2
  count_small v = elim (upper_of v == 0 || is_round v) as (λ b. (if b then 1 else 2) ≤ 2) [ true ↦ omega arith | false ↦ omega arith ]

  -- the branch is taken: the stop is passed over
  pub check_passes : (op : BranchOp) (rs1 rs2 : ℕ) (k : Check) (at : Pos) (rest : List Line) (l : Local) → rs1 < 32 → rs2 < 32 → is_taken op (l.x rs1) (l.x rs2) ≡ true
      → Path c 1 1 (check_lines op rs1 rs2 k at rest) rest [] l l
  check_passes op rs1 rs2 k at rest l h i taken = record {
    leads = λ pc a.
        let n = constant_count at.line + constant_count at.col + 4 in
        let few : n ≤ 8 = omega (arith, count_small at.line, count_small at.col) in
        let low = a.0.low in
        let aligned = a.0.aligned in
        let to : pc + 4 + (constant_count at.line + constant_count at.col + 3) * 4 ≡ pc + n * 4 = omega arith in
        record {
          to = pc + n * 4;
          there = subst (λ q. LinesAt c q rest) to (skip_stop (pc + 4) k at rest a.1);
          count = 1;
          many = omega arith;
          few = omega arith;
          travels = one_travel (detailed_system c.parts) [] (state_of c.parts l pc) (state_of c.parts l (pc + n * 4))
              (branch_taken c.parts l pc op rs1 rs2 (pos (n * 4)) (pc + n * 4) a.0 h i taken (over_word pc n low few) (omega arith));
        };
  }

  -- the branch is passed: the machine stops
  pub check_stops : (op : BranchOp) (rs1 rs2 : ℕ) (k : Check) (at : Pos) (rest : List Line) (l : Local) → rs1 < 32 → rs2 < 32 → is_taken op (l.x rs1) (l.x rs2) ≡ false → l.x 0 ≡ 0
      → at.line < 2 ^ 32 → at.col < 2 ^ 32
      → Halting c 10 (check_lines op rs1 rs2 k at rest) l (Stopped k at)
  check_stops op rs1 rs2 k at rest l h i passed z fl fc =
      let r1 = stop_lines k at rest in
      let r2 = constant_lines 11 at.line (constant_lines 12 at.col (ask_lines 3 rest)) in
      let r3 = constant_lines 12 at.col (ask_lines 3 rest) in
      let r4 = ask_lines 3 rest in
      let r5 = line.Plain Ecall ∷ rest in
      let zero = straight c (over_stop_of op rs1 rs2 at) r1 [] l l (λ pc a. branch_passed c.parts l pc op rs1 rs2 (pos ((constant_count at.line + constant_count at.col + 4) * 4)) a h i passed) in
      let one = constant_sets c 10 (check_number k) r2 l (omega arith) (omega arith) (omega (arith, check_below k)) z in
      let two = constant_sets c 11 at.line r3 one.next (omega arith) (omega arith) fl (one.other 0 (omega arith) (omega arith) ∙ z) in
      let three = constant_sets c 12 at.col r4 two.next (omega arith) (omega arith) fc (two.other 0 (omega arith) (omega arith) ∙ one.other 0 (omega arith) (omega arith) ∙ z) in
      let four = constant_sets c 17 3 r5 three.next (omega arith) (omega arith) (omega arith) (three.other 0 (omega arith) (omega arith) ∙ two.other 0 (omega arith) (omega arith) ∙ one.other 0 (omega arith) (omega arith) ∙ z) in
      let m = four.next in
      let ten : m.x 10 ≡ check_number k = four.other 10 (omega arith) (omega arith) ∙ three.other 10 (omega arith) (omega arith) ∙ two.other 10 (omega arith) (omega arith) ∙ one.value in
      let eleven : m.x 11 ≡ at.line = four.other 11 (omega arith) (omega arith) ∙ three.other 11 (omega arith) (omega arith) ∙ two.value in
      let twelve : m.x 12 ≡ at.col = four.other 12 (omega arith) (omega arith) ∙ three.value in
      let found : check_with (m.x 10) ≡ Some k = ap check_with ten ∙ check_found k in
      let place : Stopped k (record { line = m.x 11; col = m.x 12 }) ≡ Stopped k at = ap (λ v. Stopped k (record { line = v; col = m.x 12 })) eleven ∙ ap (λ v. Stopped k (record { line = at.line; col = v })) twelve in
      let halt = subst (Halting c 1 r5 m) place (halt_at c Ecall rest m (Stopped k (record { line = m.x 11; col = m.x 12 })) (λ pc a. stops_step c.parts m pc k a four.value found)) in
      then_halting c 1 1 9 (check_lines op rs1 rs2 k at rest) r1 l l (Stopped k at) zero
      (then_halting c 1 2 7 r1 r2 l one.next (Stopped k at) one.path
      (then_halting c 1 2 5 r2 r3 one.next two.next (Stopped k at) two.path
      (then_halting c 1 2 3 r3 r4 two.next three.next (Stopped k at) three.path
      (then_halting c 1 2 1 r4 r5 three.next m (Stopped k at) four.path halt))))
