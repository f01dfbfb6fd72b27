-- Places of placed code in the machine: homes in registers and words of the frame, read and written.
use Rattle.std.proofs.Common.{◌≡◌, ◌≢◌, ◌⊎◌, inl, inr, ℕ, ◌+◌, ◌*◌, ◌%◌, ◌^◌, ◌≤◌, ◌<◌, List, [], ◌∷◌, Some, refl, sym, ap, subst, ◌∙◌, arith}
use Rattle.std.proofs.lemmas.Bool.{cases_lt}
use Rattle.std.proofs.lemmas.Bool.Decides.{nat_tests}
use Rattle.ckc_base.specs.Activations.{Values}
use Rattle.ckc_rv.specs.Machine.{stack_start, memory_end}
use Rattle.ckc_rv.specs.Detailed.{MachineEvent, Outside, Wrote}
use Rattle.ckc_asm_lines.specs.declared.lines.Line.{Line}
use Rattle.ckc_frame.specs.declared.code.Place.{Place}
use Rattle.ckc_frame.specs.declared.code.Place.TheVariants.{Reg, Slot}
use Rattle.ckc_frame.specs.Places.{number_of}
use Rattle.ckc_frame.specs.WellFormed.{IsPlace}
use Rattle.ckc_emit.specs.code.Lines.{register_of, source_of, load_lines, move_lines, read_lines, write_lines, settle_lines, fetch_lines}
use Rattle.ckc_emit.proofs.Local.{Local, changed, changed_same, changed_other}
use Rattle.ckc_emit.proofs.Paths.{Code, Path, stay, followed, loosened, Sets, sets_loosened}
use Rattle.ckc_emit.proofs.FrameWords.{IsStackWord, load_sets, move_sets, Puts, store_puts}

-- ---- where places are

-- the register of a home: neither x0, x2 nor a scratch register
pub record IsHome (r : ℕ) : Type 0 where
  pub low : 8 ≤ r
  pub high : r < 26
  pub ten : r ≢ 10
  pub apart : r ≢ 17

-- the three rows of registers that are homes: x8 and x9, x11 to x16, and from x18 on
abbrev Row : ℕ → Type 0
Row k =
    ((k < 2) × (register_of k ≡ k + 8)) ⊎ ((2 ≤ k) × (k < 8) × (register_of k ≡ k + 9)) ⊎ ((8 ≤ k) × (register_of k ≡ k + 10))

row_of : (k : ℕ) → Row k
row_of k = elim (cases_lt k 2) as (λ _. Row k) [
  | inl p ↦ inl (p, grind (arith, nat_tests))
  | inr p ↦ elim (cases_lt k 8) as (λ _. Row k) [
    | inl q ↦ inr (inl (p, q, grind (arith, nat_tests)))
    | inr q ↦ inr (inr (q, grind (arith, nat_tests)))
  ]
]

home_in : (k : ℕ) → k < 16 → Row k → IsHome (register_of k)
home_in k h (inl (p, e)) = record { low = omega arith; high = omega arith; ten = omega arith; apart = omega arith }
home_in k h (inr (inl (p, q, e))) = record { low = omega arith; high = omega arith; ten = omega arith; apart = omega arith }
home_in k h (inr (inr (p, e))) = record { low = omega arith; high = omega arith; ten = omega arith; apart = omega arith }

pub register_is : (k : ℕ) → k < 16 → IsHome (register_of k)
register_is k h = home_in k h (row_of k)

same_in : (k j : ℕ) → Row k → Row j → register_of j ≡ register_of k → j ≡ k
same_in k j (inl (p, a)) (inl (q, b)) e = omega arith
same_in k j (inl (p, a)) (inr (inl (q, r, b))) e = absurd (omega arith)
same_in k j (inl (p, a)) (inr (inr (q, b))) e = absurd (omega arith)
same_in k j (inr (inl (p, o, a))) (inl (q, b)) e = absurd (omega arith)
same_in k j (inr (inl (p, o, a))) (inr (inl (q, r, b))) e = omega arith
same_in k j (inr (inl (p, o, a))) (inr (inr (q, b))) e = absurd (omega arith)
same_in k j (inr (inr (p, a))) (inl (q, b)) e = absurd (omega arith)
same_in k j (inr (inr (p, a))) (inr (inl (q, r, b))) e = absurd (omega arith)
same_in k j (inr (inr (p, a))) (inr (inr (q, b))) e = omega arith

pub registers_apart : (k j : ℕ) → k < 16 → j < 16 → j ≢ k → register_of j ≢ register_of k
registers_apart k j h i apart e = apart (same_in k j (row_of k) (row_of j) e)

-- the place has the value, if the frame is at x2
abbrev pub HasValue : Local → Place → ℕ → Type 0
HasValue l (Reg k) v = l.x (register_of k) ≡ v
HasValue l (Slot k) v = l.words (l.x 2 + (k * 4 + 80)) ≡ v

-- x0 is zero, and a frame of the stack is at x2
pub record IsFramed (l : Local) : Type 0 where
  pub zero : l.x 0 ≡ 0
  pub aligned : l.x 2 % 4 ≡ 0
  pub low : stack_start ≤ l.x 2
  pub high : l.x 2 + 16384 ≤ memory_end

-- each place that has a value in the meaning has it in the machine, and it is a word
pub record HasPlaces (l : Local) (places : Values) : Type 0 where
  pub has : (q : Place) (w : ℕ) → IsPlace q → places (number_of q) ≡ Some w → HasValue l q w
  pub word : (q : Place) (w : ℕ) → IsPlace q → places (number_of q) ≡ Some w → w < 2 ^ 32

-- What every operation keeps: the frame, its return address, and all frames above it.
pub record Keeps (l m : Local) : Type 0 where
  pub zero : m.x 0 ≡ l.x 0
  pub frame : m.x 2 ≡ l.x 2
  pub above : (a : ℕ) → (a ≡ l.x 2) ⊎ (l.x 2 + 16384 ≤ a) → m.words a ≡ l.words a

pub framed_kept : (l m : Local) → IsFramed l → Keeps l m → IsFramed m
framed_kept l m f k = record {
  zero = k.zero ∙ f.zero;
  aligned = subst (λ b. b % 4 ≡ 0) (sym k.frame) f.aligned;
  low = subst (λ b. stack_start ≤ b) (sym k.frame) f.low;
  high = subst (λ b. b + 16384 ≤ memory_end) (sym k.frame) f.high;
}

pub keeps_same : (l : Local) → Keeps l l
keeps_same l = record { zero = refl; frame = refl; above = λ a o. refl }

pub keeps_then : (l m n : Local) → Keeps l m → Keeps m n → Keeps l n
keeps_then l m n p q = record {
  zero = q.zero ∙ p.zero;
  frame = q.frame ∙ p.frame;
  above = λ a o.
      let o' : (a ≡ m.x 2) ⊎ (m.x 2 + 16384 ≤ a) = subst (λ b. (a ≡ b) ⊎ (b + 16384 ≤ a)) (sym p.frame) o in
      q.above a o' ∙ p.above a o;
}

-- the address of a slot
pub slot_word : (c : Code) (l : Local) (k : ℕ) → IsFramed l → k < 4064 → IsStackWord c (l.x 2 + (k * 4 + 80))
slot_word c l k f h =
    let a = f.aligned in
    let b = f.low in
    let d = f.high in
    record { aligned = omega arith; low = omega arith; high = omega arith }

-- ---- events

-- a store into the frame at an address
abbrev pub IsFrameStore : ℕ → MachineEvent → Type 0
IsFrameStore base (Outside event) = ⊥
IsFrameStore base (Wrote a count v) = (base ≤ a) × (a + count ≤ base + 16384)

abbrev pub AreFrameStores : ℕ → List MachineEvent → Type 0
AreFrameStores base [] = Unit {0}
AreFrameStores base (event ∷ events) = IsFrameStore base event × AreFrameStores base events

-- ---- reading

module _ (c : Code) where
  -- a register that is no home and not x2 is set: the places are as they were
  pub scratch_keeps : (a b : ℕ) (xs ys : List Line) (l : Local) (rd v : ℕ) → rd < 8 → rd ≢ 0 → rd ≢ 2 → (s : Sets c a b xs ys l rd v) → Keeps l s.next
  scratch_keeps a b xs ys l rd v h nonzero apart s = record {
    zero = s.other 0 (λ e. nonzero (sym e)) (omega arith);
    frame = s.other 2 (λ e. apart (sym e)) (omega arith);
    above = λ q o. ap (λ (f : ℕ → ℕ). f q) s.words;
  }

  pub scratch_has : (a b : ℕ) (xs ys : List Line) (l : Local) (rd v : ℕ) → rd < 8 → rd ≢ 2 → (s : Sets c a b xs ys l rd v) → (q : Place) (w : ℕ) → IsPlace q → HasValue l q w → HasValue s.next q w
  scratch_has a b xs ys l rd v h apart s (Reg k) w p e =
      let i = register_is k p in
      let low = i.low in
      s.other (register_of k) (omega arith) (omega arith) ∙ e
  scratch_has a b xs ys l rd v h apart s (Slot k) w p e =
      ap (λ (f : ℕ → ℕ). f (s.next.x 2 + (k * 4 + 80))) s.words ∙ ap (λ b. l.words (b + (k * 4 + 80))) (s.other 2 (λ q. apart (sym q)) (omega arith)) ∙ e

  -- a place is read: its value is in the register that has it then
  pub read_sets : (p : Place) (scratch v : ℕ) (rest : List Line) (l : Local) → IsFramed l → IsPlace p → HasValue l p v → v < 2 ^ 32 → scratch ≢ 0 → scratch < 32
      → Sets c 0 3 (read_lines p scratch rest) rest l (source_of p scratch) v
  read_sets (Reg k) scratch v rest l f h e fits nonzero low = record {
    next = l;
    path = loosened c 0 0 0 3 rest rest [] l l (omega arith) (omega arith) (stay c rest l);
    value = e;
    other = λ r a b. refl;
    bytes = refl;
    words = refl;
    input = refl;
  }
  read_sets (Slot k) scratch v rest l f h e fits nonzero low =
      sets_loosened c 1 3 0 3 (load_lines scratch 2 (k * 4 + 80) rest) rest l scratch v (omega arith) (omega arith)
      (load_sets c scratch 2 (k * 4 + 80) v rest l nonzero low (omega arith) (omega arith) (omega arith) (slot_word c l k f h) e fits)

  -- any register gets the value of a place
  pub fetch_sets : (rd : ℕ) (p : Place) (v : ℕ) (rest : List Line) (l : Local) → IsFramed l → IsPlace p → HasValue l p v → v < 2 ^ 32 → rd ≢ 0 → rd < 32
      → Sets c 1 3 (fetch_lines rd p rest) rest l rd v
  fetch_sets rd (Reg k) v rest l f h e fits nonzero low =
      let i = register_is k h in
      sets_loosened c 1 1 1 3 (move_lines rd (register_of k) rest) rest l rd v (omega arith) (omega arith)
      (move_sets c rd (register_of k) v rest l nonzero low (omega (arith, i.high)) e fits)
  fetch_sets rd (Slot k) v rest l f h e fits nonzero low =
      load_sets c rd 2 (k * 4 + 80) v rest l nonzero low (omega arith) (omega arith) (omega arith) (slot_word c l k f h) e fits

  -- ---- writing

  -- On the way from xs to ys the place t gets the value v; every other place, the frame and the frames above it are
  -- kept, and all that is stored lies in the frame.
  pub record Writes (least most : ℕ) (xs ys : List Line) (l : Local) (t : Place) (v : ℕ) : Type 0 where
    pub next : Local
    pub events : List MachineEvent
    pub path : Path c least most xs ys events l next
    pub stores : AreFrameStores (l.x 2) events
    pub keeps : Keeps l next
    pub value : HasValue next t v
    pub other : (q : Place) (w : ℕ) → IsPlace q → number_of q ≢ number_of t → HasValue l q w → HasValue next q w
    pub bytes : next.bytes ≡ l.bytes
    pub input : next.input ≡ l.input

  number_apart_reg : (j k : ℕ) → number_of (Reg j) ≢ number_of (Reg k) → j ≢ k
  number_apart_reg j k h e = h e

  other_kept : (a b : ℕ) (xs ys : List Line) (l : Local) (k v : ℕ) → k < 16 → (s : Sets c a b xs ys l (register_of k) v) → s.next.x 2 ≡ l.x 2
      → (q : Place) (w : ℕ) → IsPlace q → number_of q ≢ number_of (Reg k) → HasValue l q w → HasValue s.next q w
  other_kept a b xs ys l k v h s frame (Reg j) w p apart e =
      let i = register_is j p in
      let low = i.low in
      s.other (register_of j) (registers_apart k j h p apart) (omega arith) ∙ e
  other_kept a b xs ys l k v h s frame (Slot j) w p apart e =
      ap (λ (f : ℕ → ℕ). f (s.next.x 2 + (j * 4 + 80))) s.words ∙ ap (λ b. l.words (b + (j * 4 + 80))) frame ∙ e

  -- a home that is a register was set
  pub register_writes : (a b : ℕ) (xs ys : List Line) (l : Local) (k v : ℕ) → k < 16 → Sets c a b xs ys l (register_of k) v → Writes a b xs ys l (Reg k) v
  register_writes a b xs ys l k v h s =
      let i = register_is k h in
      let low = i.low in
      let frame : s.next.x 2 ≡ l.x 2 = s.other 2 (omega arith) (omega arith) in
      record {
        next = s.next;
        events = [];
        path = s.path;
        stores = tt;
        keeps = record {
          zero = s.other 0 (omega arith) (omega arith);
          frame = frame;
          above = λ q o. ap (λ (f : ℕ → ℕ). f q) s.words;
        };
        value = s.value;
        other = other_kept a b xs ys l k v h s frame;
        bytes = s.bytes;
        input = s.input;
      }

  slot_other : (a b : ℕ) (xs ys : List Line) (l : Local) (k v : ℕ) → (s : Puts c a b xs ys l (l.x 2 + (k * 4 + 80)) v) → s.next.x 2 ≡ l.x 2
      → (q : Place) (w : ℕ) → IsPlace q → number_of q ≢ number_of (Slot k) → HasValue l q w → HasValue s.next q w
  slot_other a b xs ys l k v s frame (Reg j) w p apart e =
      let i = register_is j p in
      let low = i.low in
      s.other (register_of j) (omega arith) ∙ e
  slot_other a b xs ys l k v s frame (Slot j) w p apart e =
      let off : j ≢ k = λ same. apart (ap (λ n. 16 + n) same) in
      ap (λ (f : ℕ → ℕ). f (s.next.x 2 + (j * 4 + 80))) s.words ∙ ap (λ b. changed l.words (l.x 2 + (k * 4 + 80)) v (b + (j * 4 + 80))) frame
      ∙ changed_other l.words (l.x 2 + (k * 4 + 80)) v (l.x 2 + (j * 4 + 80)) (omega arith) ∙ e

  slot_above : (a b : ℕ) (xs ys : List Line) (l : Local) (k v : ℕ) → k < 4064 → (s : Puts c a b xs ys l (l.x 2 + (k * 4 + 80)) v)
      → (q : ℕ) → (q ≡ l.x 2) ⊎ (l.x 2 + 16384 ≤ q) → s.next.words q ≡ l.words q
  slot_above a b xs ys l k v h s q o =
      let off : q ≢ l.x 2 + (k * 4 + 80) = elim o as (λ _. q ≢ l.x 2 + (k * 4 + 80)) [ inl p ↦ omega arith | inr p ↦ omega arith ] in
      ap (λ (f : ℕ → ℕ). f q) s.words ∙ changed_other l.words (l.x 2 + (k * 4 + 80)) v q off

  -- a home that is a slot was stored
  pub slot_writes : (a b : ℕ) (xs ys : List Line) (l : Local) (k v : ℕ) → k < 4064 → Puts c a b xs ys l (l.x 2 + (k * 4 + 80)) v → Writes a b xs ys l (Slot k) v
  slot_writes a b xs ys l k v h s =
      let frame : s.next.x 2 ≡ l.x 2 = s.other 2 (omega arith) in
      record {
        next = s.next;
        events = Wrote (l.x 2 + (k * 4 + 80)) 4 (v % 256 ^ 4) ∷ [];
        path = s.path;
        stores = ((omega arith, omega arith), tt);
        keeps = record { zero = s.other 0 (omega arith); frame = frame; above = slot_above a b xs ys l k v h s };
        value = ap (λ (f : ℕ → ℕ). f (s.next.x 2 + (k * 4 + 80))) s.words ∙ changed_same l.words (l.x 2 + (k * 4 + 80)) v (s.next.x 2 + (k * 4 + 80)) (ap (λ b. b + (k * 4 + 80)) frame);
        other = slot_other a b xs ys l k v s frame;
        bytes = s.bytes;
        input = s.input;
      }

  pub writes_loosened : (a b d e : ℕ) (xs ys : List Line) (l : Local) (t : Place) (v : ℕ) → d ≤ a → b ≤ e → Writes a b xs ys l t v → Writes d e xs ys l t v
  writes_loosened a b d e xs ys l t v h k s = record {
    next = s.next;
    events = s.events;
    path = loosened c a b d e xs ys s.events l s.next h k s.path;
    stores = s.stores;
    keeps = s.keeps;
    value = s.value;
    other = s.other;
    bytes = s.bytes;
    input = s.input;
  }

  -- a scratch register is set before a place is written
  pub scratch_then : (a b d e : ℕ) (xs ys zs : List Line) (l : Local) (rd w : ℕ) (t : Place) (v : ℕ) → rd < 8 → rd ≢ 0 → rd ≢ 2
      → (s : Sets c a b xs ys l rd w) → Writes d e ys zs s.next t v → Writes (a + d) (b + e) xs zs l t v
  scratch_then a b d e xs ys zs l rd w t v h nonzero apart s m =
      let kept = scratch_keeps a b xs ys l rd w h nonzero apart s in
      record {
        next = m.next;
        events = m.events;
        path = followed c a b d e xs ys zs [] m.events l s.next m.next s.path m.path;
        stores = subst (λ base. AreFrameStores base m.events) kept.frame m.stores;
        keeps = keeps_then l s.next m.next kept m.keeps;
        value = m.value;
        other = λ q u p off e. m.other q u p off (scratch_has a b xs ys l rd w h apart s q u p e);
        bytes = m.bytes ∙ s.bytes;
        input = m.input ∙ s.input;
      }

  -- a place gets the value of a register
  pub settle_writes : (t : Place) (rs v : ℕ) (rest : List Line) (l : Local) → IsFramed l → IsPlace t → rs < 32 → rs ≢ 7 → l.x rs ≡ v → v < 2 ^ 32
      → Writes 1 3 (settle_lines t rs rest) rest l t v
  settle_writes (Reg k) rs v rest l f h low apart e fits =
      let i = register_is k h in
      let least = i.low in
      writes_loosened 1 1 1 3 (settle_lines (Reg k) rs rest) rest l (Reg k) v (omega arith) (omega arith)
      (register_writes 1 1 (settle_lines (Reg k) rs rest) rest l k v h (move_sets c (register_of k) rs v rest l (omega arith) (omega (arith, i.high)) low e fits))
  settle_writes (Slot k) rs v rest l f h low apart e fits =
      slot_writes 1 3 (settle_lines (Slot k) rs rest) rest l k v h
      (store_puts c rs 2 (k * 4 + 80) v rest l low apart (omega arith) (omega arith) (omega arith) (slot_word c l k f h) e)

  pub source_low : (t : Place) → IsPlace t → (source_of t 5 ≢ 0) × (source_of t 5 < 32)
  source_low (Reg k) h =
      let i = register_is k h in
      let least = i.low in
      let most = i.high in
      (omega arith, omega arith)
  source_low (Slot k) h = (omega arith, omega arith)

  -- The register of a place is set, or x5 if the place is a slot, and then the place is written.
  pub write_after : (a b : ℕ) (xs : List Line) (t : Place) (v : ℕ) (rest : List Line) (l : Local) → IsFramed l → IsPlace t
      → Sets c a b xs (write_lines t 5 rest) l (source_of t 5) v → Writes a (b + 3) xs rest l t v
  write_after a b xs (Reg k) v rest l f h s = writes_loosened a b a (b + 3) xs rest l (Reg k) v (omega arith) (omega arith) (register_writes a b xs rest l k v h s)
  write_after a b xs (Slot k) v rest l f h s =
      let kept = scratch_keeps a b xs (write_lines (Slot k) 5 rest) l 5 v (omega arith) (omega arith) (omega arith) s in
      let framed = framed_kept l s.next f kept in
      writes_loosened (a + 1) (b + 3) a (b + 3) xs rest l (Slot k) v (omega arith) (omega arith)
      (scratch_then a b 1 3 xs (write_lines (Slot k) 5 rest) rest l 5 v (Slot k) v (omega arith) (omega arith) (omega arith) s
      (slot_writes 1 3 (write_lines (Slot k) 5 rest) rest s.next k v h
      (store_puts c 5 2 (k * 4 + 80) v rest s.next (omega arith) (omega arith) (omega arith) (omega arith) (omega arith) (slot_word c s.next k framed h) s.value)))
