-- What the lines of operations come to: the value of each operation is in a register.
use Rattle.std.proofs.Common.{◌≡◌, ◌≢◌, ◌⊎◌, inl, inr, ℕ, ◌+◌, ◌*◌, ◌^◌, ◌<◌, nat_lt, List, ◌∷◌, refl, sym, ap, subst, ◌∙◌, arith}
use Rattle.std.specs.Prelude.{ℤ, pos}
use Rattle.ckc_base.specs.Words.{flag, word_of, applied}
use Rattle.ckc_base.specs.declared.arithmetic.BinOp.{BinOp}
use Rattle.ckc_base.specs.declared.arithmetic.BinOp.TheVariants as op
use Rattle.ckc_rv_operations.specs.declared.operations.RegOp.{RegOp}
use Rattle.ckc_rv_operations.specs.declared.operations.RegOp.TheVariants.{Sub, Sltu}
use Rattle.ckc_rv_operations.specs.declared.operations.ImmOp.{ImmOp}
use Rattle.ckc_rv_operations.specs.declared.operations.ImmOp.TheVariants.{Sltiu}
use Rattle.ckc_rv.specs.declared.instructions.Instr.TheVariants.{Imm, Reg}
use Rattle.ckc_rv.specs.Effects.{reg_value, reg_form}
use Rattle.ckc_asm_lines.specs.declared.lines.Line.{Line}
use Rattle.ckc_asm_lines.specs.declared.lines.Line.TheVariants.{Plain}
use Rattle.ckc_frame.specs.declared.code.Place.{Place}
use Rattle.ckc_frame.specs.declared.code.Place.TheVariants as place
use Rattle.ckc_frame.specs.WellFormed.{IsPlace}
use Rattle.ckc_emit.specs.code.Lines.{register_of, source_of, write_lines, operation_of, apply_lines, ending_lines, const_lines, copy_lines}
use Rattle.ckc_emit.proofs.Local.{Local}
use Rattle.ckc_emit.proofs.Steps.{reg_step, imm_step}
use Rattle.ckc_emit.proofs.Paths.{Code, Sets, set_by, set_again, sets_loosened}
use Rattle.ckc_emit.proofs.FrameWords.{sets_value, constant_sets, load_sets}
use Rattle.ckc_emit.proofs.Homes.{HasValue, IsFramed, Writes, register_is, slot_word, settle_writes, write_after, writes_loosened, source_low}
use Rattle.ckc_emit.proofs.Values.{equal_flag, unequal_flag, zero_flag, some_flag}

-- a test for equality
abbrev pub IsTest : BinOp → Type 0
IsTest o = (o ≡ op.Eq) ⊎ (o ≡ op.Ne)

module _ (c : Code) where
  -- an operation of two registers
  reg_sets : (o : RegOp) (rd ra rb x y : ℕ) (rest : List Line) (l : Local) → rd ≢ 0 → rd < 32 → ra < 32 → rb < 32 → l.x ra ≡ x → l.x rb ≡ y
      → Sets c 1 1 (Plain (Reg o rd ra rb) ∷ rest) rest l rd (reg_value o x y)
  reg_sets o rd ra rb x y rest l nonzero h i j e f =
      sets_value c 1 1 (Plain (Reg o rd ra rb) ∷ rest) rest l rd (reg_value o (l.x ra) (l.x rb)) (reg_value o x y)
      (ap (λ v. reg_value o v (l.x rb)) e ∙ ap (reg_value o x) f)
      (set_by c (Reg o rd ra rb) rest l rd (reg_value o (l.x ra) (l.x rb)) nonzero (λ pc at. reg_step c.parts l pc o rd ra rb at h i j))

  pub plain_sets : (o : RegOp) (v rd ra rb x y : ℕ) (rest : List Line) (l : Local) → rd ≢ 0 → rd < 32 → ra < 32 → rb < 32 → l.x ra ≡ x → l.x rb ≡ y → reg_value o x y ≡ v
      → Sets c 1 2 (Plain (Reg o rd ra rb) ∷ rest) rest l rd v
  plain_sets o v rd ra rb x y rest l nonzero h i j e f g =
      sets_loosened c 1 1 1 2 (Plain (Reg o rd ra rb) ∷ rest) rest l rd v (omega arith) (omega arith)
      (sets_value c 1 1 (Plain (Reg o rd ra rb) ∷ rest) rest l rd (reg_value o x y) v g (reg_sets o rd ra rb x y rest l nonzero h i j e f))

  -- an operation with an immediate
  pub imm_sets : (i : ImmOp) (rd ra x v : ℕ) (z : ℤ) (rest : List Line) (l : Local) → rd ≢ 0 → rd < 32 → ra < 32 → l.x ra ≡ x → reg_value (reg_form i) x (word_of z) ≡ v
      → Sets c 1 1 (Plain (Imm i rd ra z) ∷ rest) rest l rd v
  imm_sets i rd ra x v z rest l nonzero h k e f =
      sets_value c 1 1 (Plain (Imm i rd ra z) ∷ rest) rest l rd (reg_value (reg_form i) (l.x ra) (word_of z)) v
      (ap (λ w. reg_value (reg_form i) w (word_of z)) e ∙ f)
      (set_by c (Imm i rd ra z) rest l rd (reg_value (reg_form i) (l.x ra) (word_of z)) nonzero (λ pc at. imm_step c.parts l pc i rd ra z at h k))

  -- a difference, and the end of a test for equality
  equal_sets : (xs : List Line) (rd x y : ℕ) (rest : List Line) (l : Local) → rd ≢ 0 → rd < 32 → x < 2 ^ 32 → y < 2 ^ 32
      → Sets c 1 1 xs (ending_lines op.Eq rd rd rest) l rd (reg_value Sub x y) → Sets c 2 2 xs rest l rd (applied op.Eq x y)
  equal_sets xs rd x y rest l nonzero h fits also one =
      let last = Plain (Imm Sltiu rd rd (pos 1)) ∷ rest in
      let two = set_by c (Imm Sltiu rd rd (pos 1)) rest one.next rd (flag (nat_lt (one.next.x rd) 1)) nonzero (λ pc at. imm_step c.parts one.next pc Sltiu rd rd (pos 1) at h h) in
      set_again c 1 1 1 1 xs last rest l rd (reg_value Sub x y) rd (applied op.Eq x y) (inl refl) one
      (sets_value c 1 1 last rest one.next rd (flag (nat_lt (one.next.x rd) 1)) (applied op.Eq x y)
      (ap (λ v. flag (nat_lt v 1)) one.value ∙ ap flag (equal_flag x y fits also)) two)

  unequal_sets : (xs : List Line) (rd x y : ℕ) (rest : List Line) (l : Local) → rd ≢ 0 → rd < 32 → l.x 0 ≡ 0 → x < 2 ^ 32 → y < 2 ^ 32
      → Sets c 1 1 xs (ending_lines op.Ne rd rd rest) l rd (reg_value Sub x y) → Sets c 2 2 xs rest l rd (applied op.Ne x y)
  unequal_sets xs rd x y rest l nonzero h z fits also one =
      let last = Plain (Reg Sltu rd 0 rd) ∷ rest in
      let two = reg_sets Sltu rd 0 rd 0 (reg_value Sub x y) rest one.next nonzero h (omega arith) h (one.other 0 (λ q. nonzero (sym q)) (omega arith) ∙ z) one.value in
      set_again c 1 1 1 1 xs last rest l rd (reg_value Sub x y) rd (applied op.Ne x y) (inl refl) one
      (sets_value c 1 1 last rest one.next rd (reg_value Sltu 0 (reg_value Sub x y)) (applied op.Ne x y) (ap flag (unequal_flag x y fits also)) two)

  pub ended_sets : (o : BinOp) → IsTest o → (xs : List Line) (rd x y : ℕ) (rest : List Line) (l : Local) → rd ≢ 0 → rd < 32 → l.x 0 ≡ 0 → x < 2 ^ 32 → y < 2 ^ 32
      → Sets c 1 1 xs (ending_lines o rd rd rest) l rd (reg_value Sub x y) → Sets c 2 2 xs rest l rd (applied o x y)
  ended_sets o (inl e) xs rd x y rest l nonzero h z fits also =
      subst (λ p. Sets c 1 1 xs (ending_lines p rd rd rest) l rd (reg_value Sub x y) → Sets c 2 2 xs rest l rd (applied p x y)) (sym e)
      (λ one. equal_sets xs rd x y rest l nonzero h fits also one)
  ended_sets o (inr e) xs rd x y rest l nonzero h z fits also =
      subst (λ p. Sets c 1 1 xs (ending_lines p rd rd rest) l rd (reg_value Sub x y) → Sets c 2 2 xs rest l rd (applied p x y)) (sym e)
      (λ one. unequal_sets xs rd x y rest l nonzero h z fits also one)

  -- a test for zero is its end alone
  pub zero_sets : (o : BinOp) → IsTest o → (rd ra x : ℕ) (rest : List Line) (l : Local) → rd ≢ 0 → rd < 32 → ra < 32 → l.x 0 ≡ 0 → l.x ra ≡ x
      → Sets c 1 1 (ending_lines o rd ra rest) rest l rd (applied o x 0)
  zero_sets o (inl i) rd ra x rest l nonzero h k z e =
      subst (λ p. Sets c 1 1 (ending_lines p rd ra rest) rest l rd (applied p x 0)) (sym i)
      (imm_sets Sltiu rd ra x (applied op.Eq x 0) (pos 1) rest l nonzero h k e (ap flag (zero_flag x)))
  zero_sets o (inr i) rd ra x rest l nonzero h k z e =
      subst (λ p. Sets c 1 1 (ending_lines p rd ra rest) rest l rd (applied p x 0)) (sym i)
      (sets_value c 1 1 (Plain (Reg Sltu rd 0 ra) ∷ rest) rest l rd (reg_value Sltu 0 x) (applied op.Ne x 0) (ap flag (some_flag x))
      (reg_sets Sltu rd 0 ra 0 x rest l nonzero h (omega arith) k z e))

  -- a register gets the value of an operation on two others
  pub apply_sets : (o : BinOp) (rd ra rb x y : ℕ) (rest : List Line) (l : Local) → rd ≢ 0 → rd < 32 → ra < 32 → rb < 32 → l.x 0 ≡ 0 → l.x ra ≡ x → l.x rb ≡ y
      → x < 2 ^ 32 → y < 2 ^ 32 → Sets c 1 2 (apply_lines o rd ra rb rest) rest l rd (applied o x y)
  apply_sets op.Eq rd ra rb x y rest l nonzero h i j z e f fits also =
      sets_loosened c 2 2 1 2 (apply_lines op.Eq rd ra rb rest) rest l rd (applied op.Eq x y) (omega arith) (omega arith)
      (equal_sets (apply_lines op.Eq rd ra rb rest) rd x y rest l nonzero h fits also
      (reg_sets Sub rd ra rb x y (ending_lines op.Eq rd rd rest) l nonzero h i j e f))
  apply_sets op.Ne rd ra rb x y rest l nonzero h i j z e f fits also =
      sets_loosened c 2 2 1 2 (apply_lines op.Ne rd ra rb rest) rest l rd (applied op.Ne x y) (omega arith) (omega arith)
      (unequal_sets (apply_lines op.Ne rd ra rb rest) rd x y rest l nonzero h z fits also
      (reg_sets Sub rd ra rb x y (ending_lines op.Ne rd rd rest) l nonzero h i j e f))
  apply_sets op.Add rd ra rb x y rest l nonzero h i j z e f fits also = plain_sets (operation_of op.Add) (applied op.Add x y) rd ra rb x y rest l nonzero h i j e f refl
  apply_sets op.Sub rd ra rb x y rest l nonzero h i j z e f fits also = plain_sets (operation_of op.Sub) (applied op.Sub x y) rd ra rb x y rest l nonzero h i j e f refl
  apply_sets op.Mul rd ra rb x y rest l nonzero h i j z e f fits also = plain_sets (operation_of op.Mul) (applied op.Mul x y) rd ra rb x y rest l nonzero h i j e f refl
  apply_sets op.DivS rd ra rb x y rest l nonzero h i j z e f fits also = plain_sets (operation_of op.DivS) (applied op.DivS x y) rd ra rb x y rest l nonzero h i j e f refl
  apply_sets op.DivU rd ra rb x y rest l nonzero h i j z e f fits also = plain_sets (operation_of op.DivU) (applied op.DivU x y) rd ra rb x y rest l nonzero h i j e f refl
  apply_sets op.RemS rd ra rb x y rest l nonzero h i j z e f fits also = plain_sets (operation_of op.RemS) (applied op.RemS x y) rd ra rb x y rest l nonzero h i j e f refl
  apply_sets op.RemU rd ra rb x y rest l nonzero h i j z e f fits also = plain_sets (operation_of op.RemU) (applied op.RemU x y) rd ra rb x y rest l nonzero h i j e f refl
  apply_sets op.And rd ra rb x y rest l nonzero h i j z e f fits also = plain_sets (operation_of op.And) (applied op.And x y) rd ra rb x y rest l nonzero h i j e f refl
  apply_sets op.Or rd ra rb x y rest l nonzero h i j z e f fits also = plain_sets (operation_of op.Or) (applied op.Or x y) rd ra rb x y rest l nonzero h i j e f refl
  apply_sets op.Xor rd ra rb x y rest l nonzero h i j z e f fits also = plain_sets (operation_of op.Xor) (applied op.Xor x y) rd ra rb x y rest l nonzero h i j e f refl
  apply_sets op.Shl rd ra rb x y rest l nonzero h i j z e f fits also = plain_sets (operation_of op.Shl) (applied op.Shl x y) rd ra rb x y rest l nonzero h i j e f refl
  apply_sets op.ShrS rd ra rb x y rest l nonzero h i j z e f fits also = plain_sets (operation_of op.ShrS) (applied op.ShrS x y) rd ra rb x y rest l nonzero h i j e f refl
  apply_sets op.ShrU rd ra rb x y rest l nonzero h i j z e f fits also = plain_sets (operation_of op.ShrU) (applied op.ShrU x y) rd ra rb x y rest l nonzero h i j e f refl
  apply_sets op.LtS rd ra rb x y rest l nonzero h i j z e f fits also = plain_sets (operation_of op.LtS) (applied op.LtS x y) rd ra rb x y rest l nonzero h i j e f refl
  apply_sets op.LtU rd ra rb x y rest l nonzero h i j z e f fits also = plain_sets (operation_of op.LtU) (applied op.LtU x y) rd ra rb x y rest l nonzero h i j e f refl

  -- a place gets a constant
  pub const_writes : (t : Place) (v : ℕ) (rest : List Line) (l : Local) → IsFramed l → IsPlace t → v < 2 ^ 32 → Writes c 1 5 (const_lines t v rest) rest l t v
  const_writes t v rest l f h fits =
      let low = source_low c t h in
      write_after c 1 2 (const_lines t v rest) t v rest l f h
      (constant_sets c (source_of t 5) v (write_lines t 5 rest) l low.0 low.1 fits f.zero)

  -- a place gets the value of another one
  pub copy_writes : (t a : Place) (x : ℕ) (rest : List Line) (l : Local) → IsFramed l → IsPlace t → IsPlace a → HasValue l a x → x < 2 ^ 32 → Writes c 1 6 (copy_lines t a rest) rest l t x
  copy_writes t (place.Reg k) x rest l f ht ha e fits =
      let i = register_is k ha in
      let low = i.low in
      let high = i.high in
      writes_loosened c 1 3 1 6 (copy_lines t (place.Reg k) rest) rest l t x (omega arith) (omega arith)
      (settle_writes c t (register_of k) x rest l f ht (omega arith) (omega arith) e fits)
  copy_writes t (place.Slot k) x rest l f ht ha e fits =
      let low = source_low c t ht in
      write_after c 1 3 (copy_lines t (place.Slot k) rest) t x rest l f ht
      (load_sets c (source_of t 5) 2 (k * 4 + 80) x (write_lines t 5 rest) l low.0 low.1 (omega arith) (omega arith) (omega arith) (slot_word c l k f ha) e fits)
