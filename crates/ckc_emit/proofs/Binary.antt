-- What operations on two operands come to.
use Rattle.std.proofs.Common.{◌≡◌, ◌≢◌, inl, inr, ℕ, ◌+◌, ◌-◌, ◌*◌, ◌/◌, ◌%◌, ◌^◌, ◌<◌, ◌==◌, ◌&&◌, not, if◌then◌else◌, List, [], ◌∷◌, refl, sym, ap, subst, ◌∙◌, arith}
use Rattle.std.specs.Prelude.{Bool, true, false}
use Rattle.std.specs.Int.{w32, int_shr, trailing_zeros}
use Rattle.ckc_base.specs.Words.{signed, word_of, applied}
use Rattle.ckc_base.specs.Products.{high_product}
use Rattle.ckc_base.specs.declared.arithmetic.BinOp.{BinOp}
use Rattle.ckc_base.specs.declared.arithmetic.BinOp.TheVariants as op
use Rattle.ckc_rv_operations.specs.declared.operations.ImmOp.{ImmOp}
use Rattle.ckc_rv_operations.specs.declared.operations.ImmOp.TheVariants.{Addi, Slti, Sltiu, Xori, Ori, Andi, Slli, Srli, Srai}
use Rattle.ckc_rv.specs.declared.instructions.Instr.TheVariants.{Imm, Reg as RegInstr}
use Rattle.ckc_rv.specs.Effects.{reg_value, reg_form}
use Rattle.ckc_asm_lines.specs.declared.lines.Line.{Line}
use Rattle.ckc_asm_lines.specs.declared.lines.Line.TheVariants.{Plain}
use Rattle.ckc_frame.specs.declared.code.Place.{Place}
use Rattle.ckc_frame.specs.WellFormed.{IsPlace}
use Rattle.ckc_emit.specs.declared.places.PlacedOperand.{PlacedOperand}
use Rattle.ckc_emit.specs.declared.places.PlacedOperand.TheVariants.{At, Number}
use Rattle.ckc_emit.specs.declared.operations.Form.{Form}
use Rattle.ckc_emit.specs.declared.operations.Form.TheVariants.{Cleared, Left, Zero, Immediate, Registers}
use Rattle.ckc_emit.specs.code.Operands.{IsOperand}
use Rattle.ckc_emit.specs.code.Lines.{upper_of, lower_of, source_of, register_with, operand_lines, write_lines, const_lines, value_lines, apply_lines, negated, zeros_of, number_form, form_of, is_short, is_even, is_exchanged, ending_lines, register_lines, form_lines, bin_lines, high_op, high_lines}
use Rattle.ckc_emit.proofs.Local.{Local}
use Rattle.ckc_emit.proofs.Paths.{Code, Path, followed, loosened, Sets, sets_loosened}
use Rattle.ckc_emit.proofs.Homes.{HasValue, IsFramed, Keeps, keeps_then, framed_kept, AreFrameStores, Writes, write_after, source_low, writes_loosened}
use Rattle.ckc_emit.proofs.Sources.{Reads, read_keeps, read_has}
use Rattle.ckc_emit.proofs.Operands.{HasOperand, operand_kept, left_register, right_register, read_operand}
use Rattle.ckc_emit.proofs.Acting.{const_writes, copy_writes, apply_sets, plain_sets, imm_sets, IsTest, ended_sets, zero_sets}
use Rattle.ckc_emit.proofs.Splits.{near_is, negated_small, negated_is, count_is}
use Rattle.ckc_emit.proofs.FrameWords.{chosen}
use Rattle.ckc_emit.proofs.Values.{even_turned, times_none, times_one}
use Rattle.ckc_emit.proofs.Tests.{eq_of, and_first}

module _ (c : Code) where
  -- Two operands were read, and all places are kept.
  pub record Sourced (most : ℕ) (xs ys : List Line) (l : Local) (ra x rb y : ℕ) : Type 0 where
    pub next : Local
    pub path : Path c 0 most xs ys [] l next
    pub left : next.x ra ≡ x
    pub right : next.x rb ≡ y
    pub keeps : Keeps l next
    pub has : (q : Place) (w : ℕ) → IsPlace q → HasValue l q w → HasValue next q w
    pub bytes : next.bytes ≡ l.bytes
    pub input : next.input ≡ l.input

  -- one was read into x5, and then the other one
  pub two_then : (ra x : ℕ) (xs : List Line) (b : PlacedOperand) (y : ℕ) (rest : List Line) (l : Local) → IsFramed l → IsOperand b → HasOperand l b y → y < 2 ^ 32 → ra ≢ 6 → ra ≢ 7
      → Reads c 0 3 xs (operand_lines b 6 rest) l 5 ra x → Sourced 6 xs rest l ra x (register_with b 6) y
  two_then ra x xs b y rest l f hb ey fy off six one =
      let mid = operand_lines b 6 rest in
      let kept = read_keeps c 0 3 xs mid l 5 ra x (omega arith) (omega arith) (omega arith) one in
      let still = read_has c 0 3 xs mid l 5 ra x (omega arith) (omega arith) one in
      let two = read_operand c b 6 y rest one.next (framed_kept l one.next f kept) hb (operand_kept l one.next b y still hb ey) fy (omega arith) (omega arith) in
      let kept2 = read_keeps c 0 3 mid rest one.next 6 (register_with b 6) y (omega arith) (omega arith) (omega arith) two in
      let still2 = read_has c 0 3 mid rest one.next 6 (register_with b 6) y (omega arith) (omega arith) two in
      record {
        next = two.next;
        path = followed c 0 3 0 3 xs mid rest [] [] l one.next two.next one.path two.path;
        left = two.other ra off six ∙ one.value;
        right = two.value;
        keeps = keeps_then l one.next two.next kept kept2;
        has = λ q w p e. still2 q w p (still q w p e);
        bytes = two.bytes ∙ one.bytes;
        input = two.input ∙ one.input;
      }

  pub two_reads : (a b : PlacedOperand) (x y : ℕ) (rest : List Line) (l : Local) → IsFramed l → IsOperand a → IsOperand b → HasOperand l a x → HasOperand l b y → x < 2 ^ 32 → y < 2 ^ 32
      → Sourced 6 (operand_lines a 5 (operand_lines b 6 rest)) rest l (register_with a 5) x (register_with b 6) y
  two_reads a b x y rest l f ha hb ex ey fx fy =
      let mid = operand_lines b 6 rest in
      let reg = left_register a ha in
      two_then (register_with a 5) x (operand_lines a 5 mid) b y rest l f hb ey fy reg.1 reg.2 (read_operand c a 5 x mid l f ha ex fx (omega arith) (omega arith))

  -- one was read into x5
  pub one_then : (ra x : ℕ) (xs rest : List Line) (l : Local) → Reads c 0 3 xs rest l 5 ra x → Sourced 3 xs rest l ra x ra x
  one_then ra x xs rest l one = record {
    next = one.next;
    path = one.path;
    left = one.value;
    right = one.value;
    keeps = read_keeps c 0 3 xs rest l 5 ra x (omega arith) (omega arith) (omega arith) one;
    has = read_has c 0 3 xs rest l 5 ra x (omega arith) (omega arith) one;
    bytes = one.bytes;
    input = one.input;
  }

  pub one_read : (a : PlacedOperand) (x : ℕ) (rest : List Line) (l : Local) → IsFramed l → IsOperand a → HasOperand l a x → x < 2 ^ 32
      → Sourced 3 (operand_lines a 5 rest) rest l (register_with a 5) x (register_with a 5) x
  one_read a x rest l f ha ex fx =
      one_then (register_with a 5) x (operand_lines a 5 rest) rest l (read_operand c a 5 x rest l f ha ex fx (omega arith) (omega arith))

  -- operands were read before a place is written
  pub sourced_then : (n d e : ℕ) (xs ys zs : List Line) (l : Local) (ra x rb y : ℕ) (t : Place) (v : ℕ)
      → (s : Sourced n xs ys l ra x rb y) → Writes c d e ys zs s.next t v → Writes c d (n + e) xs zs l t v
  sourced_then n d e xs ys zs l ra x rb y t v s m = record {
    next = m.next;
    events = m.events;
    path = loosened c (0 + d) (n + e) d (n + e) xs zs m.events l m.next (omega arith) (omega arith) (followed c 0 n d e xs ys zs [] m.events l s.next m.next s.path m.path);
    stores = subst (λ base. AreFrameStores base m.events) s.keeps.frame m.stores;
    keeps = keeps_then l s.next m.next s.keeps m.keeps;
    value = m.value;
    other = λ q u p off w. m.other q u p off (s.has q u p w);
    bytes = m.bytes ∙ s.bytes;
    input = m.input ∙ s.input;
  }

  -- ---- operations on two operands

  plain_writes : (o : BinOp) (t : Place) (a b : PlacedOperand) (x y : ℕ) (rest : List Line) (l : Local) → IsFramed l → IsPlace t → IsOperand a → IsOperand b → HasOperand l a x → HasOperand l b y → x < 2 ^ 32 → y < 2 ^ 32
      → Writes c 1 11 (register_lines o t a b rest) rest l t (applied o x y)
  plain_writes o t a b x y rest l f ht ha hb ex ey fx fy =
      let mid = apply_lines o (source_of t 5) (register_with a 5) (register_with b 6) (write_lines t 5 rest) in
      let xs = operand_lines a 5 (operand_lines b 6 mid) in
      let s = two_reads a b x y mid l f ha hb ex ey fx fy in
      let framed = framed_kept l s.next f s.keeps in
      let low = source_low c t ht in
      sourced_then 6 1 5 xs mid rest l (register_with a 5) x (register_with b 6) y t (applied o x y) s
      (write_after c 1 2 mid t (applied o x y) rest s.next framed ht
      (apply_sets c o (source_of t 5) (register_with a 5) (register_with b 6) x y (write_lines t 5 rest) s.next low.0 low.1 (left_register a ha).0 (right_register b hb) framed.zero s.left s.right fx fy))

  -- a place gets the value of an operand
  value_writes : (t : Place) (a : PlacedOperand) (x : ℕ) (rest : List Line) (l : Local) → IsFramed l → IsPlace t → IsOperand a → HasOperand l a x → x < 2 ^ 32 → Writes c 1 6 (value_lines t a rest) rest l t x
  value_writes t (At p) x rest l f ht ha ex fx = copy_writes c t p x rest l f ht ha ex fx
  value_writes t (Number n) x rest l f ht ha ex fx =
      subst (λ v. Writes c 1 6 (const_lines t n rest) rest l t v) ex
      (writes_loosened c 1 5 1 6 (const_lines t n rest) rest l t n (omega arith) (omega arith) (const_writes c t n rest l f ht ha))

  -- an operand was read, and what sets the register of the target then comes to the value
  one_writes : (t : Place) (a : PlacedOperand) (x v : ℕ) (mid rest : List Line) (l : Local) → IsFramed l → IsPlace t → IsOperand a → HasOperand l a x → x < 2 ^ 32
      → ((m : Local) → m.x 0 ≡ 0 → m.x (register_with a 5) ≡ x → Sets c 1 2 mid (write_lines t 5 rest) m (source_of t 5) v)
      → Writes c 1 11 (operand_lines a 5 mid) rest l t v
  one_writes t a x v mid rest l f ht ha ex fx sets =
      let s = one_read a x mid l f ha ex fx in
      let framed = framed_kept l s.next f s.keeps in
      writes_loosened c 1 (3 + 5) 1 11 (operand_lines a 5 mid) rest l t v (omega arith) (omega arith)
      (sourced_then 3 1 5 (operand_lines a 5 mid) mid rest l (register_with a 5) x (register_with a 5) x t v s
      (write_after c 1 2 mid t v rest s.next framed ht (sets s.next framed.zero s.left)))

  module _ (t : Place) (a : PlacedOperand) (x n : ℕ) (rest : List Line) (l : Local) (f : IsFramed l) (ht : IsPlace t) (ha : IsOperand a) (ex : HasOperand l a x) (fx : x < 2 ^ 32) (fits : n < 2 ^ 32) where
    abbrev rd : ℕ
    rd = source_of t 5

    abbrev ra : ℕ
    ra = register_with a 5

    abbrev after : List Line
    after = write_lines t 5 rest

    abbrev Formed : Form → BinOp → Type 0
    Formed form o = Writes c 1 11 (form_lines form o t a (Number n) rest) rest l t (applied o x n)

    by_registers : (o : BinOp) → Formed Registers o
    by_registers o = plain_writes o t a (Number n) x n rest l f ht ha fits ex refl fx fits

    -- one instruction with an immediate
    by_immediate : (o : BinOp) (i : ImmOp) (k : ℕ) → ((ys : List Line) → ending_lines o rd rd ys ≡ ys) → reg_value (reg_form i) x (word_of (lower_of k)) ≡ applied o x n → Formed (Immediate i k) o
    by_immediate o i k none e =
        let low = source_low c t ht in
        let z = lower_of k in
        one_writes t a x (applied o x n) (Plain (Imm i rd ra z) ∷ ending_lines o rd rd after) rest l f ht ha ex fx (λ m zero_is left.
        subst (λ ys. Sets c 1 2 (Plain (Imm i rd ra z) ∷ ys) after m rd (applied o x n)) (sym (none after))
        (sets_loosened c 1 1 1 2 (Plain (Imm i rd ra z) ∷ after) after m rd (applied o x n) (omega arith) (omega arith)
        (imm_sets c i rd ra x (applied o x n) z after m low.0 low.1 (left_register a ha).0 left e)))

    -- a difference that an immediate makes, and the end of the test
    by_difference : (o : BinOp) → IsTest o → word_of (lower_of (negated n)) ≡ negated n → Formed (Immediate Addi (negated n)) o
    by_difference o is e =
        let low = source_low c t ht in
        let z = lower_of (negated n) in
        one_writes t a x (applied o x n) (Plain (Imm Addi rd ra z) ∷ ending_lines o rd rd after) rest l f ht ha ex fx (λ m zero_is left.
        sets_loosened c 2 2 1 2 (Plain (Imm Addi rd ra z) ∷ ending_lines o rd rd after) after m rd (applied o x n) (omega arith) (omega arith)
        (ended_sets c o is (Plain (Imm Addi rd ra z) ∷ ending_lines o rd rd after) rd x n after m low.0 low.1 zero_is fx fits
        (imm_sets c Addi rd ra x ((x + (2 ^ 32 - n)) % 2 ^ 32) z (ending_lines o rd rd after) m low.0 low.1 (left_register a ha).0 left
        (ap (λ w. (x + w) % 2 ^ 32) e ∙ negated_is x n fits))))

    -- a comparison with zero
    by_zero : (o : BinOp) → IsTest o → n ≡ 0 → Formed Zero o
    by_zero o is e =
        let low = source_low c t ht in
        one_writes t a x (applied o x n) (ending_lines o rd ra after) rest l f ht ha ex fx (λ m zero_is left.
        sets_loosened c 1 1 1 2 (ending_lines o rd ra after) after m rd (applied o x n) (omega arith) (omega arith)
        (subst (λ k. Sets c 1 1 (ending_lines o rd ra after) after m rd (applied o x k)) (sym e) (zero_sets c o is rd ra x after m low.0 low.1 (left_register a ha).0 zero_is left)))

    -- a product with 0, with 1, with a power of two
    by_clearing : n ≡ 0 → Formed Cleared op.Mul
    by_clearing e =
        subst (λ v. Writes c 1 11 (const_lines t 0 rest) rest l t v) (times_none x n e)
        (writes_loosened c 1 5 1 11 (const_lines t 0 rest) rest l t 0 (omega arith) (omega arith) (const_writes c t 0 rest l f ht (omega arith)))

    by_left : n ≡ 1 → Formed Left op.Mul
    by_left e =
        subst (λ v. Writes c 1 11 (value_lines t a rest) rest l t v) (times_one x n fx e)
        (writes_loosened c 1 6 1 11 (value_lines t a rest) rest l t x (omega arith) (omega arith) (value_writes t a x rest l f ht ha ex fx))

    by_shift : n ≡ 2 ^ zeros_of n → Formed (Immediate Slli (zeros_of n)) op.Mul
    by_shift e =
        by_immediate op.Mul Slli (zeros_of n) (λ ys. refl)
        (ap (λ k. (x * 2 ^ k) % 2 ^ 32) (count_is (trailing_zeros w32 n)) ∙ ap (λ m. (x * m) % 2 ^ 32) (sym e))

    by_near : (b : Bool) (o : BinOp) (i : ImmOp) (k : ℕ) → (upper_of k == 0) ≡ b → k < 2 ^ 32 → ((ys : List Line) → ending_lines o rd rd ys ≡ ys) → reg_value (reg_form i) x k ≡ applied o x n
        → Formed (if b then Immediate i k else Registers) o
    by_near true o i k e small none same =
        by_immediate o i k none (ap (reg_value (reg_form i) x) (near_is k small (eq_of (upper_of k) 0 e)) ∙ same)
    by_near false o i k e small none same = by_registers o

    by_test : (b d : Bool) (o : BinOp) → IsTest o → (n == 0) ≡ b → (upper_of (negated n) == 0) ≡ d
        → Formed (if b then Zero else (if d then Immediate Addi (negated n) else Registers)) o
    by_test true d o is e g = by_zero o is (eq_of n 0 e)
    by_test false true o is e g = by_difference o is (near_is (negated n) (negated_small n) (eq_of (upper_of (negated n)) 0 g))
    by_test false false o is e g = by_registers o

    by_product : (b d g : Bool) → (n == 0) ≡ b → (n == 1) ≡ d → (n == 2 ^ zeros_of n) ≡ g
        → Formed (if b then Cleared else (if d then Left else (if g then Immediate Slli (zeros_of n) else Registers))) op.Mul
    by_product true d g e h i = by_clearing (eq_of n 0 e)
    by_product false true g e h i = by_left (eq_of n 1 h)
    by_product false false true e h i = by_shift (eq_of n (2 ^ zeros_of n) i)
    by_product false false false e h i = by_registers op.Mul

    number_writes : (o : BinOp) → Formed (number_form o n) o
    number_writes op.Add = by_near (upper_of n == 0) op.Add Addi n refl fits (λ ys. refl) refl
    number_writes op.Sub = by_near (upper_of (negated n) == 0) op.Sub Addi (negated n) refl (negated_small n) (λ ys. refl) (negated_is x n fits)
    number_writes op.And = by_near (upper_of n == 0) op.And Andi n refl fits (λ ys. refl) refl
    number_writes op.Or = by_near (upper_of n == 0) op.Or Ori n refl fits (λ ys. refl) refl
    number_writes op.Xor = by_near (upper_of n == 0) op.Xor Xori n refl fits (λ ys. refl) refl
    number_writes op.LtS = by_near (upper_of n == 0) op.LtS Slti n refl fits (λ ys. refl) refl
    number_writes op.LtU = by_near (upper_of n == 0) op.LtU Sltiu n refl fits (λ ys. refl) refl
    number_writes op.Shl = by_immediate op.Shl Slli (n % 32) (λ ys. refl) (ap (λ k. (x * 2 ^ k) % 2 ^ 32) (count_is n))
    number_writes op.ShrS = by_immediate op.ShrS Srai (n % 32) (λ ys. refl) (ap (λ k. word_of (int_shr (signed x) k)) (count_is n))
    number_writes op.ShrU = by_immediate op.ShrU Srli (n % 32) (λ ys. refl) (ap (λ k. x / 2 ^ k) (count_is n))
    number_writes op.Eq = by_test (n == 0) (upper_of (negated n) == 0) op.Eq (inl refl) refl refl
    number_writes op.Ne = by_test (n == 0) (upper_of (negated n) == 0) op.Ne (inr refl) refl refl
    number_writes op.Mul = by_product (n == 0) (n == 1) (n == 2 ^ zeros_of n) refl refl refl
    number_writes op.DivS = by_registers op.DivS
    number_writes op.DivU = by_registers op.DivU
    number_writes op.RemS = by_registers op.RemS
    number_writes op.RemU = by_registers op.RemU

  -- the operands stand in this order
  ordered_writes : (o : BinOp) (t : Place) (a b : PlacedOperand) (x y : ℕ) (rest : List Line) (l : Local) → IsFramed l → IsPlace t → IsOperand a → IsOperand b → HasOperand l a x → HasOperand l b y → x < 2 ^ 32 → y < 2 ^ 32
      → Writes c 1 11 (form_lines (form_of o b) o t a b rest) rest l t (applied o x y)
  ordered_writes o t a (At p) x y rest l f ht ha hb ex ey fx fy = plain_writes o t a (At p) x y rest l f ht ha hb ex ey fx fy
  ordered_writes o t a (Number n) x y rest l f ht ha hb ex ey fx fy =
      subst (λ k. Writes c 1 11 (form_lines (number_form o n) o t a (Number n) rest) rest l t (applied o x k)) ey (number_writes t a x n rest l f ht ha ex fx hb o)

  pub bin_writes : (o : BinOp) (t : Place) (a b : PlacedOperand) (x y : ℕ) (rest : List Line) (l : Local) → IsFramed l → IsPlace t → IsOperand a → IsOperand b → HasOperand l a x → HasOperand l b y → x < 2 ^ 32 → y < 2 ^ 32
      → Writes c 1 11 (bin_lines o t a b rest) rest l t (applied o x y)
  bin_writes o t a b x y rest l f ht ha hb ex ey fx fy =
      let exchanged = form_lines (form_of o a) o t b a rest in
      chosen (λ xs. Writes c 1 11 xs rest l t (applied o x y)) (is_exchanged o a b) exchanged (form_lines (form_of o b) o t a b rest)
      (λ e. subst (λ v. Writes c 1 11 exchanged rest l t v) (even_turned o x y (and_first (is_even o) (is_short (form_of o a)) (and_first (is_even o && is_short (form_of o a)) (not (is_short (form_of o b))) e)))
      (ordered_writes o t b a y x rest l f ht hb ha ey ex fy fx))
      (λ e. ordered_writes o t a b x y rest l f ht ha hb ex ey fx fy)

  high_value : (is_signed : Bool) (x y : ℕ) → reg_value (high_op is_signed) x y ≡ high_product is_signed x y
  high_value true x y = refl
  high_value false x y = refl

  pub high_writes : (is_signed : Bool) (t : Place) (a b : PlacedOperand) (x y : ℕ) (rest : List Line) (l : Local) → IsFramed l → IsPlace t → IsOperand a → IsOperand b → HasOperand l a x → HasOperand l b y → x < 2 ^ 32 → y < 2 ^ 32
      → Writes c 1 11 (high_lines is_signed t a b rest) rest l t (high_product is_signed x y)
  high_writes is_signed t a b x y rest l f ht ha hb ex ey fx fy =
      let mid = Plain (RegInstr (high_op is_signed) (source_of t 5) (register_with a 5) (register_with b 6)) ∷ write_lines t 5 rest in
      let s = two_reads a b x y mid l f ha hb ex ey fx fy in
      let framed = framed_kept l s.next f s.keeps in
      let low = source_low c t ht in
      sourced_then 6 1 5 (high_lines is_signed t a b rest) mid rest l (register_with a 5) x (register_with b 6) y t (high_product is_signed x y) s
      (write_after c 1 2 mid t (high_product is_signed x y) rest s.next framed ht
      (plain_sets c (high_op is_signed) (high_product is_signed x y) (source_of t 5) (register_with a 5) (register_with b 6) x y (write_lines t 5 rest) s.next low.0 low.1 (left_register a ha).0 (right_register b hb) s.left s.right (high_value is_signed x y)))
