-- Registers that are restored from the frame, and saved there.
use Rattle.std.proofs.Common.{◌≡◌, ◌≢◌, ◌⊎◌, inl, inr, ℕ, zero, suc, ◌+◌, ◌*◌, ◌%◌, ◌^◌, ◌≤◌, ◌<◌, if◌then◌else◌, Bool, true, false, List, [], ◌∷◌, refl, sym, ap, subst, ◌∙◌, arith}
use Rattle.std.proofs.lemmas.Bool.{cases_eq}
use Rattle.ckc_rv.specs.Machine.{stack_start, memory_end}
use Rattle.ckc_rv.specs.Detailed.{MachineEvent, Wrote}
use Rattle.ckc_asm_lines.specs.declared.lines.Line.{Line}
use Rattle.ckc_emit.specs.code.Lines.{register_of, load_lines, store_lines}
use Rattle.ckc_emit.specs.code.CallLines.{each_lines, saves_lines, restores_lines}
use Rattle.ckc_emit.proofs.Local.{Local, changed_same, changed_other}
use Rattle.ckc_emit.proofs.Paths.{Code, Path, stay, followed, loosened}
use Rattle.ckc_emit.proofs.FrameWords.{IsStackWord, near_load_part, near_store_puts}
use Rattle.ckc_emit.proofs.Homes.{IsFramed, register_is, registers_apart, AreFrameStores}

-- the word of the frame for a machine register
abbrev pub register_word : Local → ℕ → ℕ
register_word l k = l.x 2 + (k * 4 + 16)

module _ (c : Code) where
  stack_word : (l : Local) (k : ℕ) → IsFramed l → k < 16 → IsStackWord c (register_word l k)
  stack_word l k f h =
      let a = f.aligned in
      let b = f.low in
      let d = f.high in
      record { aligned = omega arith; low = omega arith; high = omega arith }

  -- On the way from xs to ys the registers from k on that a test names get the words of the frame.
  pub record Restores (test : ℕ → Bool) (count k : ℕ) (xs ys : List Line) (l : Local) : Type 0 where
    pub next : Local
    pub path : Path c 0 count xs ys [] l next
    pub value : (j : ℕ) → k ≤ j → j < k + count → test j ≡ true → next.x (register_of j) ≡ l.words (register_word l j) % 2 ^ 32
    pub other : (r : ℕ) → ((j : ℕ) → k ≤ j → j < k + count → r ≢ register_of j) → r ≢ 7 → next.x r ≡ l.x r
    pub bytes : next.bytes ≡ l.bytes
    pub words : next.words ≡ l.words
    pub input : next.input ≡ l.input

  pub low_apart : (count k r : ℕ) → k + count ≤ 16 → (r < 8) ⊎ (r ≡ 10) → (j : ℕ) → k ≤ j → j < k + count → r ≢ register_of j
  low_apart count k r few (inl h) j from below =
      let i = register_is j (omega arith) in
      let low = i.low in
      omega arith
  low_apart count k r few (inr h) j from below =
      let i = register_is j (omega arith) in
      let ten = i.ten in
      omega arith

  pub framed_same : (l m : Local) → m.x 0 ≡ l.x 0 → m.x 2 ≡ l.x 2 → IsFramed l → IsFramed m
  framed_same l m z e f = record {
    zero = z ∙ f.zero;
    aligned = subst (λ b. b % 4 ≡ 0) (sym e) f.aligned;
    low = subst (λ b. stack_start ≤ b) (sym e) f.low;
    high = subst (λ b. b + 16384 ≤ memory_end) (sym e) f.high;
  }

  -- the lines after a register that is restored, or not
  abbrev Later : (ℕ → Bool) → ℕ → ℕ → List Line → Type 0
  Later test count k rest = (m : Local) → IsFramed m → Restores test count k (restores_lines test count k rest) rest m

  restores_next : (test : ℕ → Bool) (count k : ℕ) (rest : List Line) (l : Local) → k + suc count ≤ 16 → IsFramed l
      → (b : Bool) → test k ≡ b → Later test count (k + 1) rest
      → Restores test (suc count) k (if b then load_lines (register_of k) 2 (k * 4 + 16) (restores_lines test count (k + 1) rest) else restores_lines test count (k + 1) rest) rest l
  restores_next test count k rest l few f false e later =
      let t = later l f in
      record {
        next = t.next;
        path = loosened c 0 count 0 (suc count) (restores_lines test count (k + 1) rest) rest [] l t.next (omega arith) (omega arith) t.path;
        value = λ j from below is. elim (cases_eq j k) as (λ _. t.next.x (register_of j) ≡ l.words (register_word l j) % 2 ^ 32) [
          | inl same ↦ absurd (let wrong : false ≡ true = sym e ∙ ap test (sym same) ∙ is in cc)
          | inr apart ↦ t.value j (omega arith) (omega arith) is
        ];
        other = λ r apart seven. t.other r (λ j from below. apart j (omega arith) (omega arith)) seven;
        bytes = t.bytes;
        words = t.words;
        input = t.input;
      }
  restores_next test count k rest l few f true e later =
      let i = register_is k (omega arith) in
      let low = i.low in
      let high = i.high in
      let v = l.words (register_word l k) % 2 ^ 32 in
      let mid = restores_lines test count (k + 1) rest in
      let s = near_load_part c (register_of k) 2 (k * 4 + 16) mid l (omega arith) (omega arith) (omega arith) (omega arith) (stack_word l k f (omega arith)) in
      let two = s.other 2 (omega arith) (omega arith) in
      let same_word : (j : ℕ) → s.next.words (register_word s.next j) ≡ l.words (register_word l j) = λ j.
      ap (λ (g : ℕ → ℕ). g (register_word s.next j)) s.words ∙ ap (λ b. l.words (b + (j * 4 + 16))) two in
      let t = later s.next (framed_same l s.next (s.other 0 (omega arith) (omega arith)) two f) in
      record {
        next = t.next;
        path = loosened c (1 + 0) (1 + count) 0 (suc count) (load_lines (register_of k) 2 (k * 4 + 16) mid) rest [] l t.next (omega arith) (omega arith)
            (followed c 1 1 0 count (load_lines (register_of k) 2 (k * 4 + 16) mid) mid rest [] [] l s.next t.next s.path t.path);
        value = λ j from below is. elim (cases_eq j k) as (λ _. t.next.x (register_of j) ≡ l.words (register_word l j) % 2 ^ 32) [
          | inl same ↦
              let here : t.next.x (register_of k) ≡ v = t.other (register_of k) (λ q from2 below2. registers_apart q k (omega arith) (omega arith) (omega arith)) (omega arith) ∙ s.value in
              subst (λ q. t.next.x (register_of q) ≡ l.words (register_word l q) % 2 ^ 32) (sym same) here
          | inr apart ↦ t.value j (omega arith) (omega arith) is ∙ ap (λ w. w % 2 ^ 32) (same_word j)
        ];
        other = λ r apart seven. t.other r (λ j from below. apart j (omega arith) (omega arith)) seven ∙ s.other r (apart k (omega arith) (omega arith)) seven;
        bytes = t.bytes ∙ s.bytes;
        words = t.words ∙ s.words;
        input = t.input ∙ s.input;
      }

  pub restores : (test : ℕ → Bool) (count k : ℕ) (rest : List Line) (l : Local) → k + count ≤ 16 → IsFramed l → Restores test count k (restores_lines test count k rest) rest l
  unfolding each_lines
  restores test zero k rest l few f = record {
    next = l;
    path = stay c rest l;
    value = λ j from below t. absurd (omega arith);
    other = λ r apart seven. refl;
    bytes = refl;
    words = refl;
    input = refl;
  }
  restores test (suc count) k rest l few f =
      restores_next test count k rest l few f (test k) refl
      (λ m g. restores test count (k + 1) rest m (omega arith) g)

  -- ---- saving

  -- On the way from xs to ys the registers from k on that a test names are stored into the frame.
  pub record Saves (test : ℕ → Bool) (count k : ℕ) (xs ys : List Line) (l : Local) : Type 0 where
    pub next : Local
    pub events : List MachineEvent
    pub path : Path c 0 count xs ys events l next
    pub stores : AreFrameStores (l.x 2) events
    pub saved : (j : ℕ) → k ≤ j → j < k + count → test j ≡ true → next.words (register_word l j) ≡ l.x (register_of j)
    pub elsewhere : (a : ℕ) → ((j : ℕ) → k ≤ j → j < k + count → a ≢ register_word l j) → next.words a ≡ l.words a
    pub other : (r : ℕ) → r ≢ 7 → next.x r ≡ l.x r
    pub bytes : next.bytes ≡ l.bytes
    pub input : next.input ≡ l.input

  abbrev LaterSaves : (ℕ → Bool) → ℕ → ℕ → List Line → Type 0
  LaterSaves test count k rest = (m : Local) → IsFramed m → Saves test count k (saves_lines test count k rest) rest m

  saves_next : (test : ℕ → Bool) (count k : ℕ) (rest : List Line) (l : Local) → k + suc count ≤ 16 → IsFramed l → (b : Bool) → test k ≡ b → LaterSaves test count (k + 1) rest
      → Saves test (suc count) k (if b then store_lines (register_of k) 2 (k * 4 + 16) (saves_lines test count (k + 1) rest) else saves_lines test count (k + 1) rest) rest l
  saves_next test count k rest l few f false e later =
      let t = later l f in
      record {
        next = t.next;
        events = t.events;
        path = loosened c 0 count 0 (suc count) (saves_lines test count (k + 1) rest) rest t.events l t.next (omega arith) (omega arith) t.path;
        stores = t.stores;
        saved = λ j from below is. elim (cases_eq j k) as (λ _. t.next.words (register_word l j) ≡ l.x (register_of j)) [
          | inl same ↦ absurd (let wrong : false ≡ true = sym e ∙ ap test (sym same) ∙ is in cc)
          | inr apart ↦ t.saved j (omega arith) (omega arith) is
        ];
        elsewhere = λ a apart. t.elsewhere a (λ j from below. apart j (omega arith) (omega arith));
        other = t.other;
        bytes = t.bytes;
        input = t.input;
      }
  saves_next test count k rest l few f true e later =
      let i = register_is k (omega arith) in
      let low = i.low in
      let high = i.high in
      let v = l.x (register_of k) in
      let w = register_word l k in
      let mid = saves_lines test count (k + 1) rest in
      let s = near_store_puts c (register_of k) 2 (k * 4 + 16) v mid l (omega arith) (omega arith) (omega arith) (stack_word l k f (omega arith)) refl in
      let two = s.other 2 (omega arith) in
      let same_word : (j : ℕ) → register_word s.next j ≡ register_word l j = λ j. ap (λ b. b + (j * 4 + 16)) two in
      let t = later s.next (framed_same l s.next (s.other 0 (omega arith)) two f) in
      let kept : t.next.words w ≡ v =
      t.elsewhere w (λ j from below same. (let q : register_word l k ≡ register_word l j = same ∙ same_word j in omega arith))
      ∙ ap (λ (g : ℕ → ℕ). g w) s.words ∙ changed_same l.words w v w refl in
      record {
        next = t.next;
        events = Wrote w 4 (v % 256 ^ 4) ∷ t.events;
        path = loosened c (1 + 0) (1 + count) 0 (suc count) (store_lines (register_of k) 2 (k * 4 + 16) mid) rest (Wrote w 4 (v % 256 ^ 4) ∷ t.events) l t.next (omega arith) (omega arith)
            (followed c 1 1 0 count (store_lines (register_of k) 2 (k * 4 + 16) mid) mid rest (Wrote w 4 (v % 256 ^ 4) ∷ []) t.events l s.next t.next s.path t.path);
        stores = ((omega arith, omega arith), subst (λ b. AreFrameStores b t.events) two t.stores);
        saved = λ j from below is. elim (cases_eq j k) as (λ _. t.next.words (register_word l j) ≡ l.x (register_of j)) [
          | inl same ↦ subst (λ q. t.next.words (register_word l q) ≡ l.x (register_of q)) (sym same) kept
          | inr apart ↦
              let reg = register_is j (omega arith) in
              let least = reg.low in
              ap t.next.words (sym (same_word j)) ∙ t.saved j (omega arith) (omega arith) is ∙ s.other (register_of j) (omega arith)
        ];
        elsewhere = λ a apart.
            t.elsewhere a (λ j from below same. apart j (omega arith) (omega arith) (same ∙ same_word j))
            ∙ ap (λ (g : ℕ → ℕ). g a) s.words ∙ changed_other l.words w v a (apart k (omega arith) (omega arith));
        other = λ r seven. t.other r seven ∙ s.other r seven;
        bytes = t.bytes ∙ s.bytes;
        input = t.input ∙ s.input;
      }

  pub saves : (test : ℕ → Bool) (count k : ℕ) (rest : List Line) (l : Local) → k + count ≤ 16 → IsFramed l → Saves test count k (saves_lines test count k rest) rest l
  unfolding each_lines
  saves test zero k rest l few f = record {
    next = l;
    events = [];
    path = stay c rest l;
    stores = tt;
    saved = λ j from below t. absurd (omega arith);
    elsewhere = λ a apart. refl;
    other = λ r seven. refl;
    bytes = refl;
    input = refl;
  }
  saves test (suc count) k rest l few f = saves_next test count k rest l few f (test k) refl (λ m g. saves test count (k + 1) rest m (omega arith) g)
