-- What the short sequences of instructions come to: constants, moves, and the words of a frame.
use Rattle.std.proofs.Common.{◌≡◌, ◌≢◌, inl, inr, ℕ, ◌+◌, ◌*◌, ◌%◌, ◌^◌, ◌≤◌, ◌<◌, ◌==◌, nat_lt, if◌then◌else◌, Bool, true, false, List, [], ◌∷◌, Some, refl, sym, ap, subst, ◌∙◌, arith}
use Rattle.std.specs.Prelude.{ℤ, pos}
use Rattle.std.specs.Ordering.{int_eq}
use Rattle.std.proofs.lemmas.Bool.Decides.{nat_tests, Decides-int_eq}
use Rattle.std.proofs.lemmas.Int.{ints}
use Rattle.ckc_base.specs.Words.{word_of}
use Rattle.ckc_rv_operations.specs.declared.operations.LoadOp.TheVariants.{Lw}
use Rattle.ckc_rv_operations.specs.declared.operations.StoreOp.TheVariants.{Sw}
use Rattle.ckc_rv_operations.specs.declared.operations.ImmOp.TheVariants.{Addi}
use Rattle.ckc_rv_operations.specs.declared.operations.RegOp.TheVariants.{Add}
use Rattle.ckc_rv.specs.declared.instructions.Instr.TheVariants.{Lui, Load, Store, Imm, Reg}
use Rattle.ckc_rv.specs.Effects.{moved}
use Rattle.ckc_rv.specs.Machine.{loaded, stack_start, memory_end}
use Rattle.ckc_rv.specs.Detailed.{Wrote}
use Rattle.ckc_asm_lines.specs.declared.lines.Line.{Line}
use Rattle.ckc_asm_lines.specs.declared.lines.Line.TheVariants.{Plain}
use Rattle.ckc_emit.specs.code.Lines.{upper_of, lower_of, is_round, both_lines, large_lines, constant_lines, move_lines, offset_lines, far_load_lines, load_lines, far_store_lines, store_lines}
use Rattle.ckc_emit.proofs.Local.{Local, changed, memory_of}
use Rattle.ckc_emit.proofs.Words.{part_loaded, stack_loaded, stack_stored}
use Rattle.ckc_emit.proofs.Steps.{lui_step, reg_step, imm_step, load_step, store_step}
use Rattle.ckc_emit.proofs.Paths.{Code, Path, straight, followed, loosened, Sets, set_by, set_again, sets_loosened}
use Rattle.ckc_emit.proofs.Splits.{split_word, small_word, round_word, far_word, near_word}
use Rattle.ckc_emit.proofs.Tests.{lt_is, eq_of}

-- what holds of both choices, where the test is known in each
pub chosen : (P : List Line → Type 0) (b : Bool) (xs ys : List Line) → (b ≡ true → P xs) → (b ≡ false → P ys) → P (if b then xs else ys)
chosen P true xs ys h k = h refl
chosen P false xs ys h k = k refl

int_eq_of : (a b : ℤ) → int_eq a b ≡ true → a ≡ b
int_eq_of a b h = grind (arith, ints, nat_tests, Decides-int_eq)

module _ (c : Code) where
  pub sets_value : (least most : ℕ) (xs ys : List Line) (l : Local) (rd w v : ℕ) → w ≡ v → Sets c least most xs ys l rd w → Sets c least most xs ys l rd v
  sets_value least most xs ys l rd w v e s = subst (Sets c least most xs ys l rd) e s

  pub lui_sets : (rd upper : ℕ) (rest : List Line) (l : Local) → rd ≢ 0 → rd < 32 → Sets c 1 1 (Plain (Lui rd upper) ∷ rest) rest l rd (upper * 2 ^ 12)
  lui_sets rd upper rest l nonzero h = set_by c (Lui rd upper) rest l rd (upper * 2 ^ 12) nonzero (λ pc at. lui_step c.parts l pc rd upper at h)

  addi_sets : (rd rs : ℕ) (z : ℤ) (rest : List Line) (l : Local) → rd ≢ 0 → rd < 32 → rs < 32 → Sets c 1 1 (Plain (Imm Addi rd rs z) ∷ rest) rest l rd ((l.x rs + word_of z) % 2 ^ 32)
  addi_sets rd rs z rest l nonzero h k = set_by c (Imm Addi rd rs z) rest l rd ((l.x rs + word_of z) % 2 ^ 32) nonzero (λ pc at. imm_step c.parts l pc Addi rd rs z at h k)

  both_sets : (rd v : ℕ) (rest : List Line) (l : Local) → rd ≢ 0 → rd < 32 → v < 2 ^ 32 → Sets c 2 2 (both_lines rd v rest) rest l rd v
  both_sets rd v rest l nonzero h fits =
      let one = lui_sets rd (upper_of v) (Plain (Imm Addi rd rd (lower_of v)) ∷ rest) l nonzero h in
      let two = addi_sets rd rd (lower_of v) rest one.next nonzero h h in
      let e : (one.next.x rd + word_of (lower_of v)) % 2 ^ 32 ≡ v = ap (λ w. (w + word_of (lower_of v)) % 2 ^ 32) one.value ∙ split_word v fits in
      set_again c 1 1 1 1 (both_lines rd v rest) (Plain (Imm Addi rd rd (lower_of v)) ∷ rest) rest l rd (upper_of v * 2 ^ 12) rd v (inl refl) one
      (sets_value 1 1 (Plain (Imm Addi rd rd (lower_of v)) ∷ rest) rest one.next rd ((one.next.x rd + word_of (lower_of v)) % 2 ^ 32) v e two)

  large_sets : (rd v : ℕ) (rest : List Line) (l : Local) → rd ≢ 0 → rd < 32 → v < 2 ^ 32 → Sets c 1 2 (large_lines rd v rest) rest l rd v
  large_sets rd v rest l nonzero h fits =
      chosen (λ xs. Sets c 1 2 xs rest l rd v) (is_round v) (Plain (Lui rd (upper_of v)) ∷ rest) (both_lines rd v rest)
      (λ e. sets_loosened c 1 1 1 2 (Plain (Lui rd (upper_of v)) ∷ rest) rest l rd v (omega arith) (omega arith)
      (sets_value 1 1 (Plain (Lui rd (upper_of v)) ∷ rest) rest l rd (upper_of v * 2 ^ 12) v (round_word v fits (int_eq_of (lower_of v) (pos 0) e)) (lui_sets rd (upper_of v) rest l nonzero h)))
      (λ e. sets_loosened c 2 2 1 2 (both_lines rd v rest) rest l rd v (omega arith) (omega arith) (both_sets rd v rest l nonzero h fits))

  -- a register is set to a word
  pub constant_sets : (rd v : ℕ) (rest : List Line) (l : Local) → rd ≢ 0 → rd < 32 → v < 2 ^ 32 → l.x 0 ≡ 0 → Sets c 1 2 (constant_lines rd v rest) rest l rd v
  constant_sets rd v rest l nonzero h fits z =
      chosen (λ xs. Sets c 1 2 xs rest l rd v) (upper_of v == 0) (Plain (Imm Addi rd 0 (lower_of v)) ∷ rest) (large_lines rd v rest)
      (λ e. sets_loosened c 1 1 1 2 (Plain (Imm Addi rd 0 (lower_of v)) ∷ rest) rest l rd v (omega arith) (omega arith)
      (sets_value 1 1 (Plain (Imm Addi rd 0 (lower_of v)) ∷ rest) rest l rd ((l.x 0 + word_of (lower_of v)) % 2 ^ 32) v
      (ap (λ w. (w + word_of (lower_of v)) % 2 ^ 32) z ∙ small_word v fits (eq_of (upper_of v) 0 e)) (addi_sets rd 0 (lower_of v) rest l nonzero h (omega arith))))
      (λ e. large_sets rd v rest l nonzero h fits)

  move_word : (v : ℕ) → v < 2 ^ 32 → (v + word_of (pos 0)) % 2 ^ 32 ≡ v
  move_word v h = omega arith

  -- a register gets the value of another one
  pub move_sets : (rd rs v : ℕ) (rest : List Line) (l : Local) → rd ≢ 0 → rd < 32 → rs < 32 → l.x rs ≡ v → v < 2 ^ 32 → Sets c 1 1 (move_lines rd rs rest) rest l rd v
  move_sets rd rs v rest l nonzero h k e fits =
      sets_value 1 1 (move_lines rd rs rest) rest l rd ((l.x rs + word_of (pos 0)) % 2 ^ 32) v
      (ap (λ w. (w + word_of (pos 0)) % 2 ^ 32) e ∙ move_word v fits) (addi_sets rd rs (pos 0) rest l nonzero h k)

  -- ---- the words of a frame

  -- a word of the stack: its address is aligned and in the stack
  pub record IsStackWord (a : ℕ) : Type 0 where
    pub aligned : a % 4 ≡ 0
    pub low : stack_start ≤ a
    pub high : a < memory_end

  offset_sets : (frame offset : ℕ) (rest : List Line) (l : Local) → frame < 32 → frame ≢ 7
      → Sets c 2 2 (offset_lines frame offset rest) rest l 7 ((upper_of offset * 2 ^ 12 + l.x frame) % 2 ^ 32)
  offset_sets frame offset rest l h apart =
      let then_line = Plain (Reg Add 7 7 frame) ∷ rest in
      let one = lui_sets 7 (upper_of offset) then_line l (omega arith) (omega arith) in
      let two = set_by c (Reg Add 7 7 frame) rest one.next 7 ((one.next.x 7 + one.next.x frame) % 2 ^ 32) (omega arith) (λ pc at. reg_step c.parts one.next pc Add 7 7 frame at (omega arith) (omega arith) h) in
      let e : (one.next.x 7 + one.next.x frame) % 2 ^ 32 ≡ (upper_of offset * 2 ^ 12 + l.x frame) % 2 ^ 32 =
      ap (λ w. (w + one.next.x frame) % 2 ^ 32) one.value ∙ ap (λ w. (upper_of offset * 2 ^ 12 + w) % 2 ^ 32) (one.other frame apart apart) in
      set_again c 1 1 1 1 (offset_lines frame offset rest) then_line rest l 7 (upper_of offset * 2 ^ 12) 7 ((upper_of offset * 2 ^ 12 + l.x frame) % 2 ^ 32) (inl refl) one
      (sets_value 1 1 then_line rest one.next 7 ((one.next.x 7 + one.next.x frame) % 2 ^ 32) ((upper_of offset * 2 ^ 12 + l.x frame) % 2 ^ 32) e two)

  -- a word of the stack at an address that an instruction spells
  word_sets : (rd rs : ℕ) (z : ℤ) (a v : ℕ) (rest : List Line) (l : Local) → rd ≢ 0 → rd < 32 → rs < 32 → moved (l.x rs) z ≡ a → IsStackWord a → l.words a ≡ v → v < 2 ^ 32
      → Sets c 1 1 (Plain (Load Lw rd rs z) ∷ rest) rest l rd v
  word_sets rd rs z a v rest l nonzero h k e w holds fits =
      let small : l.words a < 2 ^ 32 = subst (λ x. x < 2 ^ 32) (sym holds) fits in
      let there : loaded (memory_of c.parts l.bytes l.words) 4 a ≡ Some v = stack_loaded c.parts l.bytes l.words a w.aligned w.low w.high small ∙ ap Some holds in
      set_by c (Load Lw rd rs z) rest l rd v nonzero (λ pc at. load_step c.parts l pc Lw rd rs z a v at h k e w.aligned there)

  far_load_sets : (rd frame offset v : ℕ) (rest : List Line) (l : Local) → rd ≢ 0 → rd < 32 → frame < 32 → frame ≢ 7 → offset < 2 ^ 31
      → IsStackWord (l.x frame + offset) → l.words (l.x frame + offset) ≡ v → v < 2 ^ 32 → Sets c 3 3 (far_load_lines rd frame offset rest) rest l rd v
  far_load_sets rd frame offset v rest l nonzero h k apart small w holds fits =
      let last = Plain (Load Lw rd 7 (lower_of offset)) ∷ rest in
      let one = offset_sets frame offset last l k apart in
      let e : moved (one.next.x 7) (lower_of offset) ≡ l.x frame + offset = ap (λ q. moved q (lower_of offset)) one.value ∙ far_word (l.x frame) offset (omega (arith, w.high)) small in
      let two = word_sets rd 7 (lower_of offset) (l.x frame + offset) v rest one.next nonzero h (omega arith) e w (ap (λ (f : ℕ → ℕ). f (l.x frame + offset)) one.words ∙ holds) fits in
      set_again c 2 2 1 1 (far_load_lines rd frame offset rest) last rest l 7 ((upper_of offset * 2 ^ 12 + l.x frame) % 2 ^ 32) rd v (inr refl) one two

  -- a register is loaded from a frame
  pub load_sets : (rd frame offset v : ℕ) (rest : List Line) (l : Local) → rd ≢ 0 → rd < 32 → frame < 32 → frame ≢ 7 → offset < 2 ^ 31
      → IsStackWord (l.x frame + offset) → l.words (l.x frame + offset) ≡ v → v < 2 ^ 32 → Sets c 1 3 (load_lines rd frame offset rest) rest l rd v
  load_sets rd frame offset v rest l nonzero h k apart small w holds fits =
      chosen (λ xs. Sets c 1 3 xs rest l rd v) (nat_lt offset 2048) (Plain (Load Lw rd frame (pos offset)) ∷ rest) (far_load_lines rd frame offset rest)
      (λ e. sets_loosened c 1 1 1 3 (Plain (Load Lw rd frame (pos offset)) ∷ rest) rest l rd v (omega arith) (omega arith)
      (word_sets rd frame (pos offset) (l.x frame + offset) v rest l nonzero h k (near_word (l.x frame) offset (omega (arith, w.high)) small) w holds fits))
      (λ e. sets_loosened c 3 3 1 3 (far_load_lines rd frame offset rest) rest l rd v (omega arith) (omega arith) (far_load_sets rd frame offset v rest l nonzero h k apart small w holds fits))

  -- what is loaded from near the start of a frame, whatever is there
  pub near_load_part : (rd frame offset : ℕ) (rest : List Line) (l : Local) → rd ≢ 0 → rd < 32 → frame < 32 → offset < 2048
      → IsStackWord (l.x frame + offset) → Sets c 1 1 (load_lines rd frame offset rest) rest l rd (l.words (l.x frame + offset) % 2 ^ 32)
  near_load_part rd frame offset rest l nonzero h k near w =
      let a = l.x frame + offset in
      let v = l.words a % 2 ^ 32 in
      subst (λ b. Sets c 1 1 (if b then Plain (Load Lw rd frame (pos offset)) ∷ rest else far_load_lines rd frame offset rest) rest l rd v) (sym (lt_is offset 2048 near))
      (set_by c (Load Lw rd frame (pos offset)) rest l rd v nonzero (λ pc at. load_step c.parts l pc Lw rd frame (pos offset) a v at h k (near_word (l.x frame) offset (omega (arith, w.high)) (omega arith)) w.aligned
      (part_loaded c.parts l.bytes l.words a w.aligned w.low w.high)))

  -- one near the start of a frame takes one instruction
  pub near_load_sets : (rd frame offset v : ℕ) (rest : List Line) (l : Local) → rd ≢ 0 → rd < 32 → frame < 32 → offset < 2048
      → IsStackWord (l.x frame + offset) → l.words (l.x frame + offset) ≡ v → v < 2 ^ 32 → Sets c 1 1 (load_lines rd frame offset rest) rest l rd v
  near_load_sets rd frame offset v rest l nonzero h k near w holds fits =
      subst (λ b. Sets c 1 1 (if b then Plain (Load Lw rd frame (pos offset)) ∷ rest else far_load_lines rd frame offset rest) rest l rd v) (sym (lt_is offset 2048 near))
      (word_sets rd frame (pos offset) (l.x frame + offset) v rest l nonzero h k (near_word (l.x frame) offset (omega (arith, w.high)) (omega arith)) w holds fits)

  -- On the way from xs to ys a word of the stack is stored, and but for it and x7 all is kept.
  pub record Puts (least most : ℕ) (xs ys : List Line) (l : Local) (a v : ℕ) : Type 0 where
    pub next : Local
    pub path : Path c least most xs ys (Wrote a 4 (v % 256 ^ 4) ∷ []) l next
    pub other : (r : ℕ) → r ≢ 7 → next.x r ≡ l.x r
    pub bytes : next.bytes ≡ l.bytes
    pub words : next.words ≡ changed l.words a v
    pub input : next.input ≡ l.input

  word_puts : (rs1 rs2 : ℕ) (z : ℤ) (a v : ℕ) (rest : List Line) (l : Local) → rs1 < 32 → rs2 < 32 → moved (l.x rs1) z ≡ a → IsStackWord a → l.x rs2 ≡ v
      → Puts 1 1 (Plain (Store Sw rs1 rs2 z) ∷ rest) rest l a v
  word_puts rs1 rs2 z a v rest l h k e w holds =
      let next : Local = record l { words = changed l.words a (l.x rs2) } in
      record {
        next = next;
        path = subst (λ q. Path c 1 1 (Plain (Store Sw rs1 rs2 z) ∷ rest) rest (Wrote a 4 (q % 256 ^ 4) ∷ []) l next) holds
            (straight c (Store Sw rs1 rs2 z) rest (Wrote a 4 (l.x rs2 % 256 ^ 4) ∷ []) l next (λ pc at.
            store_step c.parts l pc Sw rs1 rs2 z a l.bytes (changed l.words a (l.x rs2)) at h k e w.aligned (omega (arith, w.low)) w.high
            (stack_stored c.parts l.bytes l.words a (l.x rs2) w.aligned w.low w.high)));
        other = λ r apart. refl;
        bytes = refl;
        words = ap (changed l.words a) holds;
        input = refl;
      }

  puts_loosened : (a b d e : ℕ) (xs ys : List Line) (l : Local) (q v : ℕ) → d ≤ a → b ≤ e → Puts a b xs ys l q v → Puts d e xs ys l q v
  puts_loosened a b d e xs ys l q v h k s = record {
    next = s.next;
    path = loosened c a b d e xs ys (Wrote q 4 (v % 256 ^ 4) ∷ []) l s.next h k s.path;
    other = s.other;
    bytes = s.bytes;
    words = s.words;
    input = s.input;
  }

  -- x7 is set before a word is stored
  seven_then : (a b d e : ℕ) (xs ys zs : List Line) (l : Local) (w q v : ℕ) → (s : Sets c a b xs ys l 7 w) → Puts d e ys zs s.next q v → Puts (a + d) (b + e) xs zs l q v
  seven_then a b d e xs ys zs l w q v s t = record {
    next = t.next;
    path = followed c a b d e xs ys zs [] (Wrote q 4 (v % 256 ^ 4) ∷ []) l s.next t.next s.path t.path;
    other = λ r apart. t.other r apart ∙ s.other r apart apart;
    bytes = t.bytes ∙ s.bytes;
    words = t.words ∙ ap (λ f. changed f q v) s.words;
    input = t.input ∙ s.input;
  }

  far_store_puts : (rs frame offset v : ℕ) (rest : List Line) (l : Local) → rs < 32 → rs ≢ 7 → frame < 32 → frame ≢ 7 → offset < 2 ^ 31
      → IsStackWord (l.x frame + offset) → l.x rs ≡ v → Puts 3 3 (far_store_lines rs frame offset rest) rest l (l.x frame + offset) v
  far_store_puts rs frame offset v rest l h free k apart small w holds =
      let last = Plain (Store Sw 7 rs (lower_of offset)) ∷ rest in
      let one = offset_sets frame offset last l k apart in
      let e : moved (one.next.x 7) (lower_of offset) ≡ l.x frame + offset = ap (λ q. moved q (lower_of offset)) one.value ∙ far_word (l.x frame) offset (omega (arith, w.high)) small in
      let two = word_puts 7 rs (lower_of offset) (l.x frame + offset) v rest one.next (omega arith) h e w (one.other rs free free ∙ holds) in
      seven_then 2 2 1 1 (far_store_lines rs frame offset rest) last rest l ((upper_of offset * 2 ^ 12 + l.x frame) % 2 ^ 32) (l.x frame + offset) v one two

  -- a register is stored into a frame
  pub store_puts : (rs frame offset v : ℕ) (rest : List Line) (l : Local) → rs < 32 → rs ≢ 7 → frame < 32 → frame ≢ 7 → offset < 2 ^ 31
      → IsStackWord (l.x frame + offset) → l.x rs ≡ v → Puts 1 3 (store_lines rs frame offset rest) rest l (l.x frame + offset) v
  store_puts rs frame offset v rest l h free k apart small w holds =
      chosen (λ xs. Puts 1 3 xs rest l (l.x frame + offset) v) (nat_lt offset 2048) (Plain (Store Sw frame rs (pos offset)) ∷ rest) (far_store_lines rs frame offset rest)
      (λ e. puts_loosened 1 1 1 3 (Plain (Store Sw frame rs (pos offset)) ∷ rest) rest l (l.x frame + offset) v (omega arith) (omega arith)
      (word_puts frame rs (pos offset) (l.x frame + offset) v rest l k h (near_word (l.x frame) offset (omega (arith, w.high)) small) w holds))
      (λ e. puts_loosened 3 3 1 3 (far_store_lines rs frame offset rest) rest l (l.x frame + offset) v (omega arith) (omega arith)
      (far_store_puts rs frame offset v rest l h free k apart small w holds))

  pub near_store_puts : (rs frame offset v : ℕ) (rest : List Line) (l : Local) → rs < 32 → frame < 32 → offset < 2048
      → IsStackWord (l.x frame + offset) → l.x rs ≡ v → Puts 1 1 (store_lines rs frame offset rest) rest l (l.x frame + offset) v
  near_store_puts rs frame offset v rest l h k near w holds =
      subst (λ b. Puts 1 1 (if b then Plain (Store Sw frame rs (pos offset)) ∷ rest else far_store_lines rs frame offset rest) rest l (l.x frame + offset) v) (sym (lt_is offset 2048 near))
      (word_puts frame rs (pos offset) (l.x frame + offset) v rest l k h (near_word (l.x frame) offset (omega (arith, w.high)) (omega arith)) w holds)
