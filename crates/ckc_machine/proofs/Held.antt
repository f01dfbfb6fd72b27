-- What a memory of words has at each address.
use Rattle.std.proofs.Common.{◌≡◌, ◌≢◌, ◌⊎◌, inl, inr, ℕ, zero, suc, ◌+◌, ◌-◌, ◌*◌, ◌/◌, ◌%◌, ◌^◌, ◌≤◌, ◌<◌, List, length, get_or, take, drop, length-take, Some, None, refl, sym, ap, subst, ◌∙◌, arith}
use Rattle.std.proofs.lemmas.Bool.Decides.{nat_tests}
use Rattle.std.proofs.lemmas.Bool.{cases_lt}
use Rattle.std.proofs.Math.Path.{fun_ext}
use Rattle.std.proofs.lemmas.List.{get_or-drop, get_or-take, get_or_past}
use Rattle.ckc_rv.specs.Machine.{Parts, Memory, flat, loaded, stored, code_start, data_start, stack_start, memory_end}
use Rattle.ckc_rv_operations.specs.declared.operations.LoadOp.{LoadOp}
use Rattle.ckc_rv_operations.specs.declared.operations.LoadOp.TheVariants.{Lb, Lh, Lw, Lbu, Lhu}
use Rattle.ckc_rv_operations.specs.declared.operations.StoreOp.{StoreOp}
use Rattle.ckc_rv_operations.specs.declared.operations.StoreOp.TheVariants.{Sb, Sh, Sw}
use Rattle.ckc_rv.specs.Effects.{load_bytes, store_bytes}
use Rattle.ckc_rv.proofs.Stored.{stored_inside, stored_outside}
use Rattle.ckc_machine.specs.Bytes.{byte_of, byte_in, stack_byte, memory_of_words}
use Rattle.ckc_machine.specs.code.Bytes.{part_of, Holds, IsUnmapped, IsChanged, IsMerged}

-- what holds of 0, 1, 2 and 3 holds of each number below 4
pub below_4 : (P : ℕ → Type 0) → P 0 → P 1 → P 2 → P 3 → (i : ℕ) → i < 4 → P i
below_4 P a b c d zero h = a
below_4 P a b c d (suc zero) h = b
below_4 P a b c d (suc (suc zero)) h = c
below_4 P a b c d (suc (suc (suc zero))) h = d
below_4 P a b c d (suc (suc (suc (suc n)))) h = absurd (omega arith)

-- the bytes of the word that four bytes spell
pub bytes_of_word : (word b0 b1 b2 b3 : ℕ) → b0 < 256 → b1 < 256 → b2 < 256 → b3 < 256 → word ≡ b0 + 256 * (b1 + 256 * (b2 + 256 * (b3 + 256 * 0)))
    → (byte_of word 0 ≡ b0) × (byte_of word 1 ≡ b1) × (byte_of word 2 ≡ b2) × (byte_of word 3 ≡ b3)
bytes_of_word word b0 b1 b2 b3 h0 h1 h2 h3 e = (omega arith, omega arith, omega arith, omega arith)

module _ (code statics stack : List ℕ) where
  pub held_code : (a : ℕ) → code_start ≤ a → a < code_start + length code → memory_of_words code statics stack a ≡ Some (get_or code (a - code_start) 0)
  unfolding memory_of_words
  held_code a h k = grind (arith, nat_tests)

  pub held_statics : (a : ℕ) → length code ≤ 16773120 → data_start ≤ a → a < stack_start → memory_of_words code statics stack a ≡ Some (byte_in statics (a - data_start))
  unfolding memory_of_words
  held_statics a fits h k = grind (arith, nat_tests)

  pub held_stack : (a : ℕ) → length code ≤ 16773120 → stack_start ≤ a → a < memory_end → memory_of_words code statics stack a ≡ Some (stack_byte stack a)
  unfolding memory_of_words
  held_stack a fits h k = grind (arith, nat_tests)

  pub held_below : (a : ℕ) → a < code_start → memory_of_words code statics stack a ≡ None
  unfolding memory_of_words
  held_below a h = grind (arith, nat_tests)

  pub held_between : (a : ℕ) → code_start + length code ≤ a → a < data_start → memory_of_words code statics stack a ≡ None
  unfolding memory_of_words
  held_between a h k = grind (arith, nat_tests)

  pub held_above : (a : ℕ) → length code ≤ 16773120 → memory_end ≤ a → memory_of_words code statics stack a ≡ None
  unfolding memory_of_words
  held_above a fits h = grind (arith, nat_tests)

-- the byte i of the word at a place that is a multiple of 4
pub byte_in_word : (words : List ℕ) (a i : ℕ) → a % 4 ≡ 0 → i < 4 → byte_in words (a + i) ≡ byte_of (get_or words (a / 4) 0) i
byte_in_word words a i h k =
    let p : (a + i) / 4 ≡ a / 4 = omega arith in
    let q : (a + i) % 4 ≡ i = omega arith in
    ap (λ j. byte_of (get_or words j 0) ((a + i) % 4)) p ∙ ap (byte_of (get_or words (a / 4) 0)) q

-- the byte i of the word at an address of the stack that is a multiple of 4
byte_in_stack : (words : List ℕ) (a i : ℕ) → a % 4 ≡ 0 → a < memory_end → i < 4 → stack_byte words (a + i) ≡ byte_of (get_or words ((memory_end - 1 - a) / 4) 0) i
byte_in_stack words a i h below k =
    let p : (memory_end - 1 - (a + i)) / 4 ≡ (memory_end - 1 - a) / 4 = omega arith in
    let q : (a + i) % 4 ≡ i = omega arith in
    ap (λ j. byte_of (get_or words j 0) ((a + i) % 4)) p ∙ ap (byte_of (get_or words ((memory_end - 1 - a) / 4) 0)) q

module _ (code statics stack : List ℕ) (fits : length code ≤ 16773120) where
  pub holds_statics : (a : ℕ) → a % 4 ≡ 0 → data_start ≤ a → a < stack_start → Holds (memory_of_words code statics stack) a (get_or statics ((a - data_start) / 4) 0)
  holds_statics a al h k i l =
      let e : a + i - data_start ≡ a - data_start + i = omega arith in
      held_statics code statics stack (a + i) fits (omega arith) (omega arith)
      ∙ ap (λ j. Some (byte_in statics j)) e ∙ ap Some (byte_in_word statics (a - data_start) i (omega arith) l)

  pub holds_stack : (a : ℕ) → a % 4 ≡ 0 → stack_start ≤ a → a < memory_end → Holds (memory_of_words code statics stack) a (get_or stack ((memory_end - 1 - a) / 4) 0)
  holds_stack a al h k i l =
      held_stack code statics stack (a + i) fits (omega arith) (omega arith) ∙ ap Some (byte_in_stack stack a i al k l)

  pub unmapped_below : (a : ℕ) → a % 4 ≡ 0 → a < code_start → IsUnmapped (memory_of_words code statics stack) a
  unmapped_below a al h i l = held_below code statics stack (a + i) (omega arith)

  pub unmapped_between : (a : ℕ) → a % 4 ≡ 0 → code_start + length code ≤ a → a < data_start → IsUnmapped (memory_of_words code statics stack) a
  unmapped_between a al h k i l = held_between code statics stack (a + i) (omega arith) (omega arith)

  pub unmapped_above : (a : ℕ) → memory_end ≤ a → IsUnmapped (memory_of_words code statics stack) a
  unmapped_above a h i l = held_above code statics stack (a + i) fits (omega arith)

  pub holds_code : (a word : ℕ) → code_start ≤ a → a + 3 < code_start + length code
      → ((i : ℕ) → i < 4 → byte_of word i ≡ get_or code (a - code_start + i) 0) → Holds (memory_of_words code statics stack) a word
  holds_code a word h k e i l =
      let j : a + i - code_start ≡ a - code_start + i = omega arith in
      held_code code statics stack (a + i) (omega arith) (omega arith)
      ∙ ap (λ n. Some (get_or code n 0)) j ∙ ap Some (sym (e i l))

-- ---- what is loaded

-- the number that bytes spell, the lowest first
abbrev pub spelled : ℕ → (ℕ → ℕ) → ℕ
spelled zero f = 0
spelled (suc n) f = f 0 + 256 * spelled n (λ i. f (suc i))

loaded_more : (m : Memory) (n a b r : ℕ) → m a ≡ Some b → loaded m n (a + 1) ≡ Some r → loaded m (suc n) a ≡ Some (b + 256 * r)
unfolding loaded
loaded_more m n a b r e f = rw (e, f) refl

pub loaded_bytes : (n : ℕ) (m : Memory) (a : ℕ) (f : ℕ → ℕ) → ((i : ℕ) → i < n → m (a + i) ≡ Some (f i)) → loaded m n a ≡ Some (spelled n f)
unfolding loaded
loaded_bytes zero m a f e = refl
loaded_bytes (suc n) m a f e =
    let here : a + 0 ≡ a = omega arith in
    let next : (i : ℕ) → i < n → m (a + 1 + i) ≡ Some (f (suc i)) = λ i h.
    let on : a + suc i ≡ a + 1 + i = omega arith in
    subst (λ q. m q ≡ Some (f (suc i))) on (e (suc i) (omega arith)) in
    loaded_more m n a (f 0) (spelled n (λ i. f (suc i))) (subst (λ q. m q ≡ Some (f 0)) here (e 0 (omega arith))) (loaded_bytes n m (a + 1) (λ i. f (suc i)) next)

pub loaded_none : (m : Memory) (n a : ℕ) → m a ≡ None → loaded m (suc n) a ≡ None
unfolding loaded
loaded_none m n a e = rw e refl

-- the whole word
pub loaded_word : (m : Memory) (a word : ℕ) → word < 2 ^ 32 → Holds m a word → loaded m 4 a ≡ Some word
loaded_word m a word h e =
    let w : spelled 4 (byte_of word) ≡ word = omega arith in
    loaded_bytes 4 m a (byte_of word) e ∙ ap Some w

-- one byte, two bytes or four of a word
bytes_from : (m : Memory) (a word place n : ℕ) → place + n ≤ 4 → Holds m (a - place) word → place ≤ a → loaded m n a ≡ Some (spelled n (λ i. byte_of word (place + i)))
bytes_from m a word place n fits h below =
    loaded_bytes n m a (λ i. byte_of word (place + i)) (λ i k.
    let on : a - place + (place + i) ≡ a + i = omega arith in
    subst (λ q. m q ≡ Some (byte_of word (place + i))) on (h (place + i) (omega arith)))

spelled_one : (word place : ℕ) → place < 4 → spelled 1 (λ i. byte_of word (place + i)) ≡ part_of word place 1
spelled_one word place h = below_4 (λ p. spelled 1 (λ i. byte_of word (p + i)) ≡ part_of word p 1) (omega arith) (omega arith) (omega arith) (omega arith) place h

pub loaded_one : (m : Memory) (a word : ℕ) → Holds m (a - a % 4) word → loaded m 1 a ≡ Some (part_of word (a % 4) 1)
loaded_one m a word h = bytes_from m a word (a % 4) 1 (omega arith) h (omega arith) ∙ ap Some (spelled_one word (a % 4) (omega arith))

spelled_two : (word place : ℕ) → place % 2 ≡ 0 → place < 4 → spelled 2 (λ i. byte_of word (place + i)) ≡ part_of word place 2
spelled_two word place al h = below_4 (λ p. p % 2 ≡ 0 → spelled 2 (λ i. byte_of word (p + i)) ≡ part_of word p 2) (λ e. omega arith) (λ e. absurd (omega arith)) (λ e. omega arith) (λ e. absurd (omega arith)) place h al

pub loaded_two : (m : Memory) (a word : ℕ) → a % 2 ≡ 0 → Holds m (a - a % 4) word → loaded m 2 a ≡ Some (part_of word (a % 4) 2)
loaded_two m a word al h = bytes_from m a word (a % 4) 2 (omega arith) h (omega arith) ∙ ap Some (spelled_two word (a % 4) (omega arith) (omega arith))

pub loaded_four : (m : Memory) (a word : ℕ) → word < 2 ^ 32 → a % 4 ≡ 0 → Holds m (a - a % 4) word → loaded m 4 a ≡ Some (part_of word (a % 4) 4)
loaded_four m a word small al h =
    let here : a - a % 4 ≡ a = omega arith in
    let whole : part_of word (a % 4) 4 ≡ word = ap (λ p. part_of word p 4) al ∙ omega arith in
    loaded_word m a word small (subst (λ q. Holds m q word) here h) ∙ ap Some (sym whole)

pub loaded_unmapped : (m : Memory) (a n : ℕ) → IsUnmapped m (a - a % 4) → loaded m (suc n) a ≡ None
loaded_unmapped m a n h =
    let on : a - a % 4 + a % 4 ≡ a = omega arith in
    loaded_none m n a (subst (λ q. m q ≡ None) on (h (a % 4) (omega arith)))

pub load_gives : (op : LoadOp) (m : Memory) (a word : ℕ) → word < 2 ^ 32 → a % load_bytes op ≡ 0 → Holds m (a - a % 4) word
    → loaded m (load_bytes op) a ≡ Some (part_of word (a % 4) (load_bytes op))
load_gives Lb m a word small al h = loaded_one m a word h
load_gives Lh m a word small al h = loaded_two m a word al h
load_gives Lw m a word small al h = loaded_four m a word small al h
load_gives Lbu m a word small al h = loaded_one m a word h
load_gives Lhu m a word small al h = loaded_two m a word al h

pub load_fails : (op : LoadOp) (m : Memory) (a : ℕ) → IsUnmapped m (a - a % 4) → loaded m (load_bytes op) a ≡ None
load_fails Lb m a h = loaded_unmapped m a 0 h
load_fails Lh m a h = loaded_unmapped m a 1 h
load_fails Lw m a h = loaded_unmapped m a 3 h
load_fails Lbu m a h = loaded_unmapped m a 0 h
load_fails Lhu m a h = loaded_unmapped m a 1 h

-- ---- what is stored

-- a number that is read from four bytes has these bytes
pub read_back : (word : ℕ) (bytes : List ℕ) → ((i : ℕ) → i < 4 → get_or bytes i 0 < 256)
    → word ≡ get_or bytes 0 0 + 256 * (get_or bytes 1 0 + 256 * (get_or bytes 2 0 + 256 * (get_or bytes 3 0 + 256 * 0)))
    → (i : ℕ) → i < 4 → byte_of word i ≡ get_or bytes i 0
read_back word bytes small e =
    let w = bytes_of_word word (get_or bytes 0 0) (get_or bytes 1 0) (get_or bytes 2 0) (get_or bytes 3 0) (small 0 (omega arith)) (small 1 (omega arith)) (small 2 (omega arith)) (small 3 (omega arith)) e in
    below_4 (λ i. byte_of word i ≡ get_or bytes i 0) w.0 w.1 w.2 w.3

-- A word with its bits from a place on replaced, as it is computed: those above, the value's, and those below.
abbrev pub replaced : ℕ → ℕ → ℕ → ℕ → ℕ
replaced word shift size value =
    (((word / 2 ^ shift / size * size) % 2 ^ 32 + value % size) * 2 ^ shift % 2 ^ 32 + word % (1 * 2 ^ shift % 2 ^ 32)) % 2 ^ 32

merged_one : (word place value merged : ℕ) → byte_of merged place ≡ value % 256 → ((i : ℕ) → i < 4 → i ≢ place → byte_of merged i ≡ byte_of word i)
    → IsMerged word place 1 value merged
merged_one word place value merged here others = record {
  inside = λ i h.
      let first : i ≡ 0 = omega arith in
      let at : place + i ≡ place = omega arith in
      ap (byte_of merged) at ∙ here ∙ ap (byte_of value) (sym first);
  outside = λ i h o. others i h (elim o as (λ _. i ≢ place) [ inl p ↦ omega arith | inr p ↦ omega arith ]);
}

byte_0 : (word value : ℕ) → word < 2 ^ 32 → IsMerged word 0 1 value (replaced word (8 * 0) 256 value)
byte_0 word value small = merged_one word 0 value (replaced word (8 * 0) 256 value) (omega arith)
    (below_4 (λ i. i ≢ 0 → byte_of (replaced word (8 * 0) 256 value) i ≡ byte_of word i) (λ n. absurd (n refl)) (λ n. omega arith) (λ n. omega arith) (λ n. omega arith))

byte_1 : (word value : ℕ) → word < 2 ^ 32 → IsMerged word 1 1 value (replaced word (8 * 1) 256 value)
byte_1 word value small = merged_one word 1 value (replaced word (8 * 1) 256 value) (omega arith)
    (below_4 (λ i. i ≢ 1 → byte_of (replaced word (8 * 1) 256 value) i ≡ byte_of word i) (λ n. omega arith) (λ n. absurd (n refl)) (λ n. omega arith) (λ n. omega arith))

byte_2 : (word value : ℕ) → word < 2 ^ 32 → IsMerged word 2 1 value (replaced word (8 * 2) 256 value)
byte_2 word value small = merged_one word 2 value (replaced word (8 * 2) 256 value) (omega arith)
    (below_4 (λ i. i ≢ 2 → byte_of (replaced word (8 * 2) 256 value) i ≡ byte_of word i) (λ n. omega arith) (λ n. omega arith) (λ n. absurd (n refl)) (λ n. omega arith))

byte_3 : (word value : ℕ) → word < 2 ^ 32 → IsMerged word 3 1 value (replaced word (8 * 3) 256 value)
byte_3 word value small = merged_one word 3 value (replaced word (8 * 3) 256 value) (omega arith)
    (below_4 (λ i. i ≢ 3 → byte_of (replaced word (8 * 3) 256 value) i ≡ byte_of word i) (λ n. omega arith) (λ n. omega arith) (λ n. omega arith) (λ n. absurd (n refl)))

-- one byte of a word is set
pub merged_byte : (word place value : ℕ) → word < 2 ^ 32 → place < 4 → IsMerged word place 1 value (replaced word (8 * place) 256 value)
merged_byte word place value small = below_4 (λ p. IsMerged word p 1 value (replaced word (8 * p) 256 value))
    (byte_0 word value small) (byte_1 word value small) (byte_2 word value small) (byte_3 word value small) place

neither : {i from to : ℕ} → (i < from) ⊎ (to ≤ i) → from ≤ i → i < to → ⊥
neither (inl p) h k = omega arith
neither (inr p) h k = omega arith

half_0 : (word value : ℕ) → word < 2 ^ 32 → IsMerged word 0 2 value (replaced word (8 * 0) 65536 value)
half_0 word value small = record {
  inside = λ i h. below_4 (λ i. i < 2 → byte_of (replaced word (8 * 0) 65536 value) (0 + i) ≡ byte_of value i)
      (λ l. omega arith) (λ l. omega arith) (λ l. absurd (omega arith)) (λ l. absurd (omega arith)) i (omega arith) h;
  outside = below_4 (λ i. (i < 0) ⊎ (0 + 2 ≤ i) → byte_of (replaced word (8 * 0) 65536 value) i ≡ byte_of word i)
      (λ o. absurd (neither o (omega arith) (omega arith))) (λ o. absurd (neither o (omega arith) (omega arith))) (λ o. omega arith) (λ o. omega arith);
}

half_2 : (word value : ℕ) → word < 2 ^ 32 → IsMerged word 2 2 value (replaced word (8 * 2) 65536 value)
half_2 word value small = record {
  inside = λ i h. below_4 (λ i. i < 2 → byte_of (replaced word (8 * 2) 65536 value) (2 + i) ≡ byte_of value i)
      (λ l. omega arith) (λ l. omega arith) (λ l. absurd (omega arith)) (λ l. absurd (omega arith)) i (omega arith) h;
  outside = below_4 (λ i. (i < 2) ⊎ (2 + 2 ≤ i) → byte_of (replaced word (8 * 2) 65536 value) i ≡ byte_of word i)
      (λ o. omega arith) (λ o. omega arith) (λ o. absurd (neither o (omega arith) (omega arith))) (λ o. absurd (neither o (omega arith) (omega arith)));
}

-- one half of a word is set
pub merged_half : (word place value : ℕ) → word < 2 ^ 32 → place % 2 ≡ 0 → place < 4 → IsMerged word place 2 value (replaced word (8 * place) 65536 value)
merged_half word place value small even h = below_4 (λ p. p % 2 ≡ 0 → IsMerged word p 2 value (replaced word (8 * p) 65536 value))
    (λ e. half_0 word value small) (λ e. absurd (omega arith)) (λ e. half_2 word value small) (λ e. absurd (omega arith)) place h even

-- ---- a word is put

same_below : (code s s' t t' : List ℕ) (q : ℕ) → q < data_start → memory_of_words code s t q ≡ memory_of_words code s' t' q
unfolding memory_of_words
same_below code s s' t t' q h = grind (arith, nat_tests)

data Region (q : ℕ) : Type 0 where
  below_data : q < data_start → Region q
  in_data : data_start ≤ q → q < stack_start → Region q
  in_stack : stack_start ≤ q → q < memory_end → Region q
  above : memory_end ≤ q → Region q

region_of : (q : ℕ) → Region q
region_of q = elim (cases_lt q data_start) [
  | inl h ↦ below_data h
  | inr h ↦ elim (cases_lt q stack_start) [
    | inl k ↦ in_data h k
    | inr k ↦ elim (cases_lt q memory_end) [ inl l ↦ in_stack k l | inr l ↦ above l ]
  ]
]

-- the words but for one place stay
abbrev pub SameBut : ℕ → List ℕ → List ℕ → Type 0
SameBut at old new = (j : ℕ) → j ≢ at → get_or new j 0 ≡ get_or old j 0

module _ (code statics stack now : List ℕ) (fits : length code ≤ 16773120) (a word : ℕ) (al : a % 4 ≡ 0) where
  pub changed_statics : get_or now ((a - data_start) / 4) 0 ≡ word → SameBut ((a - data_start) / 4) statics now → data_start ≤ a → a < stack_start → IsChanged (memory_of_words code statics stack) (memory_of_words code now stack) a word
  changed_statics same others h k = record {
    here = subst (Holds (memory_of_words code now stack) a) same (holds_statics code now stack fits a al h k);
    elsewhere = λ q o. elim (region_of q) as (λ _. memory_of_words code now stack q ≡ memory_of_words code statics stack q) [
      | below_data l ↦ same_below code now statics stack stack q l
      | in_data l r ↦
          let apart : (q - data_start) / 4 ≢ (a - data_start) / 4 = elim o as (λ _. (q - data_start) / 4 ≢ (a - data_start) / 4) [ inl p ↦ omega arith | inr p ↦ omega arith ] in
          held_statics code now stack q fits l r ∙ ap (λ w. Some (byte_of w ((q - data_start) % 4))) (others ((q - data_start) / 4) apart) ∙ sym (held_statics code statics stack q fits l r)
      | in_stack l r ↦ held_stack code now stack q fits l r ∙ sym (held_stack code statics stack q fits l r)
      | above l ↦ held_above code now stack q fits l ∙ sym (held_above code statics stack q fits l)
    ];
  }

  pub changed_stack : get_or now ((memory_end - 1 - a) / 4) 0 ≡ word → SameBut ((memory_end - 1 - a) / 4) stack now → stack_start ≤ a → a < memory_end → IsChanged (memory_of_words code statics stack) (memory_of_words code statics now) a word
  changed_stack same others h k = record {
    here = subst (Holds (memory_of_words code statics now) a) same (holds_stack code statics now fits a al h k);
    elsewhere = λ q o. elim (region_of q) as (λ _. memory_of_words code statics now q ≡ memory_of_words code statics stack q) [
      | below_data l ↦ same_below code statics statics now stack q l
      | in_data l r ↦ held_statics code statics now q fits l r ∙ sym (held_statics code statics stack q fits l r)
      | in_stack l r ↦
          let apart : (memory_end - 1 - q) / 4 ≢ (memory_end - 1 - a) / 4 = elim o as (λ _. (memory_end - 1 - q) / 4 ≢ (memory_end - 1 - a) / 4) [ inl p ↦ omega arith | inr p ↦ omega arith ] in
          held_stack code statics now q fits l r ∙ ap (λ w. Some (byte_of w (q % 4))) (others ((memory_end - 1 - q) / 4) apart) ∙ sym (held_stack code statics stack q fits l r)
      | above l ↦ held_above code statics now q fits l ∙ sym (held_above code statics stack q fits l)
    ];
  }

-- ---- a value is stored

-- A word that is put with some bytes of a value is those bytes stored.
pub put_is_stored : (old new : Memory) (n a word value merged : ℕ) → a % 4 + n ≤ 4 → Holds old (a - a % 4) word → IsMerged word (a % 4) n value merged → IsChanged old new (a - a % 4) merged
    → new ≡ stored old n a value
put_is_stored old new n a word value merged fits h g k = fun_ext (λ q.
    let w = a - a % 4 in
    elim (cases_lt q w) as (λ _. new q ≡ stored old n a value q) [
      | inl p ↦ k.elsewhere q (inl p) ∙ sym (stored_outside n old a value q (inl (omega arith)))
      | inr p ↦ elim (cases_lt q (w + 4)) as (λ _. new q ≡ stored old n a value q) [
        | inr r ↦ k.elsewhere q (inr r) ∙ sym (stored_outside n old a value q (inr (omega arith)))
        | inl r ↦
            let i = q - w in
            let on : w + i ≡ q = omega arith in
            let now : new q ≡ Some (byte_of merged i) = subst (λ (x : ℕ). new x ≡ Some (byte_of merged i)) on (k.here i (omega arith)) in
            let was : old q ≡ Some (byte_of word i) = subst (λ (x : ℕ). old x ≡ Some (byte_of word i)) on (h i (omega arith)) in
            elim (cases_lt i (a % 4)) as (λ _. new q ≡ stored old n a value q) [
              | inl s ↦ now ∙ ap Some (g.outside i (omega arith) (inl s)) ∙ sym was ∙ sym (stored_outside n old a value q (inl (omega arith)))
              | inr s ↦ elim (cases_lt i (a % 4 + n)) as (λ _. new q ≡ stored old n a value q) [
                | inr t ↦ now ∙ ap Some (g.outside i (omega arith) (inr t)) ∙ sym was ∙ sym (stored_outside n old a value q (inr (omega arith)))
                | inl t ↦
                    let j = i - a % 4 in
                    let place : a % 4 + j ≡ i = omega arith in
                    let there : a + j ≡ q = omega arith in
                    now ∙ ap (λ x. Some (byte_of merged x)) (sym place) ∙ ap Some (g.inside j (omega arith))
                    ∙ sym (subst (λ (x : ℕ). stored old n a value x ≡ Some (byte_of value j)) there (stored_inside n old a value j (omega arith) (omega arith)))
              ]
            ]
      ]
    ])

-- an aligned access lies in one word
pub store_within : (op : StoreOp) (a : ℕ) → a % store_bytes op ≡ 0 → a % 4 + store_bytes op ≤ 4
store_within Sb a h = omega arith
store_within Sh a h = omega arith
store_within Sw a h = omega arith

-- ---- the memory at the start

-- byte i of what lies from a place on, which is 0 past the end
pub byte_behind : (xs : List ℕ) (at i : ℕ) → get_or (take (length xs - at) (drop at xs)) i 0 ≡ get_or xs (at + i) 0
byte_behind xs at i = elim (cases_lt (at + i) (length xs)) as (λ _. get_or (take (length xs - at) (drop at xs)) i 0 ≡ get_or xs (at + i) 0) [
  | inl h ↦ get_or-take (length xs - at) (drop at xs) i 0 (omega arith) ∙ get_or-drop at xs i 0
  | inr h ↦
      let past : length (take (length xs - at) (drop at xs)) ≤ i = omega (arith, length-take (length xs - at) (drop at xs)) in
      get_or_past (take (length xs - at) (drop at xs)) i 0 past ∙ sym (get_or_past xs (at + i) 0 h)
]

-- one word more is filled
pub filled_more : (words now bytes : List ℕ) (i word : ℕ) → get_or now i 0 ≡ word → SameBut i words now → ((k : ℕ) → k < 4 * i → byte_in words k ≡ get_or bytes k 0)
    → ((r : ℕ) → r < 4 → byte_of word r ≡ get_or bytes (4 * i + r) 0) → (k : ℕ) → k < 4 * (i + 1) → byte_in now k ≡ get_or bytes k 0
filled_more words now bytes i word same others before here k l = elim (cases_lt k (4 * i)) as (λ _. byte_in now k ≡ get_or bytes k 0) [
  | inl p ↦ ap (λ w. byte_of w (k % 4)) (others (k / 4) (omega arith)) ∙ before k p
  | inr p ↦
      let j : k / 4 ≡ i = omega arith in
      let at : 4 * i + k % 4 ≡ k = omega arith in
      ap (λ n. byte_of (get_or now n 0) (k % 4)) j ∙ ap (λ w. byte_of w (k % 4)) same
      ∙ here (k % 4) (omega arith) ∙ ap (λ n. get_or bytes n 0) at
]

zero_byte : (i : ℕ) → i < 4 → byte_of 0 i ≡ 0
zero_byte = below_4 (λ i. byte_of 0 i ≡ 0) refl refl refl refl

-- if all words of the bytes are filled and the others are 0
pub filled_all : (words bytes : List ℕ) (i : ℕ) → length bytes ≤ 4 * i → ((k : ℕ) → k < 4 * i → byte_in words k ≡ get_or bytes k 0) → ((j : ℕ) → i ≤ j → get_or words j 0 ≡ 0)
    → (k : ℕ) → byte_in words k ≡ get_or bytes k 0
filled_all words bytes i h filled zero' k = elim (cases_lt k (4 * i)) as (λ _. byte_in words k ≡ get_or bytes k 0) [
  | inl p ↦ filled k p
  | inr p ↦ ap (λ w. byte_of w (k % 4)) (zero' (k / 4) (omega arith)) ∙ zero_byte (k % 4) (omega arith) ∙ sym (get_or_past bytes k 0 (omega arith))
]

flat_below : (parts : Parts) (s t : List ℕ) (q : ℕ) → q < data_start → memory_of_words parts.code s t q ≡ flat parts q
unfolding memory_of_words flat
flat_below parts s t q h = grind (arith, nat_tests)

flat_data : (parts : Parts) (q : ℕ) → length parts.code ≤ 16773120 → data_start ≤ q → q < stack_start → flat parts q ≡ Some (get_or parts.initial (q - data_start) 0)
unfolding flat
flat_data parts q fits h k = grind (arith, nat_tests)

flat_stack : (parts : Parts) (q : ℕ) → length parts.code ≤ 16773120 → stack_start ≤ q → q < memory_end → flat parts q ≡ Some 0
unfolding flat
flat_stack parts q fits h k = grind (arith, nat_tests)

flat_above : (parts : Parts) (q : ℕ) → length parts.code ≤ 16773120 → memory_end ≤ q → flat parts q ≡ None
unfolding flat
flat_above parts q fits h = grind (arith, nat_tests)

pub held_is_flat : (parts : Parts) (statics stack : List ℕ) → length parts.code ≤ 16773120 → ((k : ℕ) → byte_in statics k ≡ get_or parts.initial k 0) → ((j : ℕ) → get_or stack j 0 ≡ 0)
    → memory_of_words parts.code statics stack ≡ flat parts
held_is_flat parts statics stack fits e z = fun_ext (λ q. elim (region_of q) as (λ _. memory_of_words parts.code statics stack q ≡ flat parts q) [
  | below_data l ↦ flat_below parts statics stack q l
  | in_data l r ↦ held_statics parts.code statics stack q fits l r ∙ ap Some (e (q - data_start)) ∙ sym (flat_data parts q fits l r)
  | in_stack l r ↦
      let zero' : stack_byte stack q ≡ 0 = ap (λ w. byte_of w (q % 4)) (z ((memory_end - 1 - q) / 4)) ∙ zero_byte (q % 4) (omega arith) in
      held_stack parts.code statics stack q fits l r ∙ ap Some zero' ∙ sym (flat_stack parts q fits l r)
  | above l ↦ held_above parts.code statics stack q fits l ∙ sym (flat_above parts q fits l)
])
