-- The memory of a machine that runs emitted code: words of the stack and bytes of the data region are loaded and
-- stored as functions are read and changed.
use Rattle.std.proofs.Common.{◌≡◌, ◌≢◌, ◌⊎◌, inl, inr, ℕ, zero, suc, ◌+◌, ◌-◌, ◌*◌, ◌/◌, ◌%◌, ◌^◌, ◌≤◌, ◌<◌, Option, Some, None, option_and_then, refl, sym, ap, subst, ◌∙◌, arith}
use Rattle.std.specs.Option.{option_map}
use Rattle.std.specs.Int.{byte_at}
use Rattle.std.proofs.lemmas.Bool.{cases_lt, cases_eq}
use Rattle.std.proofs.Math.Path.{fun_ext}
use Rattle.ckc_rv.specs.Machine.{Parts, Memory, loaded, stored, with_byte, data_start, stack_start, memory_end}
use Rattle.ckc_rv.proofs.Stored.{with_byte_same, with_byte_other, stored_inside, stored_outside}
use Rattle.ckc_emit.proofs.Local.{changed, changed_same, changed_other, memory_of, memory_below, memory_data, memory_stack, memory_above}
use Rattle.ckc_emit.proofs.Tests.{small_part}

-- ---- loads

-- four bytes that are there spell a number
pub loaded_word : (m : Memory) (a b0 b1 b2 b3 : ℕ) → m a ≡ Some b0 → m (a + 1) ≡ Some b1 → m (a + 2) ≡ Some b2 → m (a + 3) ≡ Some b3
    → loaded m 4 a ≡ Some (b0 + 256 * (b1 + 256 * (b2 + 256 * (b3 + 256 * 0))))
unfolding loaded
loaded_word m a b0 b1 b2 b3 e f g h =
    let f' : m (a + 1) ≡ Some b1 = f in
    let p2 : a + 1 + 1 ≡ a + 2 = omega arith in
    let p3 : a + 1 + 1 + 1 ≡ a + 3 = omega arith in
    let g' : m (a + 1 + 1) ≡ Some b2 = ap m p2 ∙ g in
    let h' : m (a + 1 + 1 + 1) ≡ Some b3 = ap m p3 ∙ h in
    rw (e, f', g', h') refl

part_word : (v : ℕ) → byte_at 0 v + 256 * (byte_at 1 v + 256 * (byte_at 2 v + 256 * (byte_at 3 v + 256 * 0))) ≡ v % 2 ^ 32
part_word v = omega arith

module _ (parts : Parts) (bytes words : ℕ → ℕ) where
  stack_byte : (a i : ℕ) → a % 4 ≡ 0 → i < 4 → stack_start ≤ a → a < memory_end → memory_of parts bytes words (a + i) ≡ Some (byte_at i (words a))
  stack_byte a i h k low high =
      let p : (a + i) / 4 * 4 ≡ a = omega arith in
      let q : (a + i) % 4 ≡ i = omega arith in
      memory_stack parts bytes words (a + i) (omega arith) (omega arith)
      ∙ ap (λ j. Some (byte_at ((a + i) % 4) (words j))) p ∙ ap (λ j. Some (byte_at j (words a))) q

  -- what is loaded is the part of a word of the stack that fits
  pub part_loaded : (a : ℕ) → a % 4 ≡ 0 → stack_start ≤ a → a < memory_end → loaded (memory_of parts bytes words) 4 a ≡ Some (words a % 2 ^ 32)
  part_loaded a h low high =
      let p0 : a + 0 ≡ a = omega arith in
      loaded_word (memory_of parts bytes words) a (byte_at 0 (words a)) (byte_at 1 (words a)) (byte_at 2 (words a)) (byte_at 3 (words a))
      (subst (λ q. memory_of parts bytes words q ≡ Some (byte_at 0 (words a))) p0 (stack_byte a 0 h (omega arith) low high))
      (stack_byte a 1 h (omega arith) low high) (stack_byte a 2 h (omega arith) low high) (stack_byte a 3 h (omega arith) low high)
      ∙ ap Some (part_word (words a))

  -- a word of the stack is loaded
  pub stack_loaded : (a : ℕ) → a % 4 ≡ 0 → stack_start ≤ a → a < memory_end → words a < 2 ^ 32 → loaded (memory_of parts bytes words) 4 a ≡ Some (words a)
  stack_loaded a h low high fits = part_loaded a h low high ∙ ap Some (small_part (words a) fits)

pub more_read : (b b' r r' : Option ℕ) (v : ℕ) → ((x : ℕ) → b ≡ Some x → b' ≡ Some x) → ((x : ℕ) → r ≡ Some x → r' ≡ Some x)
    → option_and_then (λ low. option_map (λ high. low + 256 * high) r) b ≡ Some v → option_and_then (λ low. option_map (λ high. low + 256 * high) r') b' ≡ Some v
more_read (Some low) b' (Some high) r' v h k e = rw (h low refl, k high refl) e
more_read (Some low) b' None r' v h k e = absurd cc
more_read None b' r r' v h k e = absurd cc

-- what is there, is loaded from every memory that has the same there
pub loaded_more : (m n : Memory) (count a v : ℕ) → ((q x : ℕ) → m q ≡ Some x → n q ≡ Some x) → loaded m count a ≡ Some v → loaded n count a ≡ Some v
unfolding loaded
loaded_more m n zero a v h e = e
loaded_more m n (suc count) a v h e =
    more_read (m a) (n a) (loaded m count (a + 1)) (loaded n count (a + 1)) v (h a) (λ x. loaded_more m n count (a + 1) x h) e

-- memories that agree in a place load the same from it
pub loaded_same : (m n : Memory) (count a : ℕ) → ((j : ℕ) → j < count → m (a + j) ≡ n (a + j)) → loaded m count a ≡ loaded n count a
unfolding loaded
loaded_same m n zero a h = refl
loaded_same m n (suc count) a h =
    let p0 : a + 0 ≡ a = omega arith in
    let here : m a ≡ n a = subst (λ q. m q ≡ n q) p0 (h 0 (omega arith)) in
    let rest : loaded m count (a + 1) ≡ loaded n count (a + 1) = loaded_same m n count (a + 1) (λ j k.
    let p : a + suc j ≡ a + 1 + j = omega arith in
    subst (λ q. m q ≡ n q) p (h (suc j) (omega arith))) in
    rw (here, rest) refl

-- ---- stores

-- the data region alone depends on its bytes
off_data : (parts : Parts) (bytes now words : ℕ → ℕ) (q : ℕ) → (q < data_start) ⊎ (stack_start ≤ q) → memory_of parts bytes words q ≡ memory_of parts now words q
off_data parts bytes now words q (inl p) = memory_below parts bytes words q p ∙ sym (memory_below parts now words q p)
off_data parts bytes now words q (inr p) = elim (cases_lt q memory_end) as (λ _. memory_of parts bytes words q ≡ memory_of parts now words q) [
  | inl r ↦ memory_stack parts bytes words q p r ∙ sym (memory_stack parts now words q p r)
  | inr r ↦ memory_above parts bytes words q r ∙ sym (memory_above parts now words q r)
]

-- the stack alone depends on its words
off_stack : (parts : Parts) (bytes words now : ℕ → ℕ) (q : ℕ) → (q < stack_start) ⊎ (memory_end ≤ q) → memory_of parts bytes words q ≡ memory_of parts bytes now q
off_stack parts bytes words now q (inr p) = memory_above parts bytes words q p ∙ sym (memory_above parts bytes now q p)
off_stack parts bytes words now q (inl p) = elim (cases_lt q data_start) as (λ _. memory_of parts bytes words q ≡ memory_of parts bytes now q) [
  | inl r ↦ memory_below parts bytes words q r ∙ sym (memory_below parts bytes now q r)
  | inr r ↦ memory_data parts bytes words q r p ∙ sym (memory_data parts bytes now q r p)
]

data_byte_at : (parts : Parts) (bytes words : ℕ → ℕ) (a byte : ℕ) → data_start ≤ a → a < stack_start → (q : ℕ) → (q ≡ a) ⊎ (q ≡ a → ⊥)
    → with_byte (memory_of parts bytes words) a byte q ≡ memory_of parts (changed bytes a byte) words q
data_byte_at parts bytes words a byte low high q (inl e) =
    with_byte_same (memory_of parts bytes words) a byte q e
    ∙ ap Some (sym (changed_same bytes a byte q e))
    ∙ sym (memory_data parts (changed bytes a byte) words q (omega arith) (omega arith))
data_byte_at parts bytes words a byte low high q (inr h) =
    with_byte_other (memory_of parts bytes words) a byte q h
    ∙ elim (cases_lt q data_start) as (λ _. memory_of parts bytes words q ≡ memory_of parts (changed bytes a byte) words q) [
      | inl r ↦ off_data parts bytes (changed bytes a byte) words q (inl r)
      | inr r ↦ elim (cases_lt q stack_start) as (λ _. memory_of parts bytes words q ≡ memory_of parts (changed bytes a byte) words q) [
        | inr t ↦ off_data parts bytes (changed bytes a byte) words q (inr t)
        | inl t ↦ memory_data parts bytes words q r t ∙ ap Some (sym (changed_other bytes a byte q h)) ∙ sym (memory_data parts (changed bytes a byte) words q r t)
      ]
    ]

-- a byte of the data region is put
data_byte_put : (parts : Parts) (bytes words : ℕ → ℕ) (a byte : ℕ) → data_start ≤ a → a < stack_start
    → with_byte (memory_of parts bytes words) a byte ≡ memory_of parts (changed bytes a byte) words
data_byte_put parts bytes words a byte low high = fun_ext (λ q. data_byte_at parts bytes words a byte low high q (cases_eq q a))

-- the bytes of the data region with the lowest ones of a number from a place on
unfoldable pub bytes_put : (ℕ → ℕ) → ℕ → ℕ → ℕ → ℕ → ℕ
bytes_put bytes zero a value = bytes
bytes_put bytes (suc count) a value = changed (bytes_put bytes count (a + 1) (value / 256)) a (value % 256)

-- a number is stored into the data region
pub data_stored : (parts : Parts) (bytes words : ℕ → ℕ) (count a value : ℕ) → data_start ≤ a → a + count ≤ stack_start
    → stored (memory_of parts bytes words) count a value ≡ memory_of parts (bytes_put bytes count a value) words
unfolding stored bytes_put
data_stored parts bytes words zero a value low high = refl
data_stored parts bytes words (suc count) a value low high =
    ap (λ m. with_byte m a (value % 256)) (data_stored parts bytes words count (a + 1) (value / 256) (omega arith) (omega arith))
    ∙ data_byte_put parts (bytes_put bytes count (a + 1) (value / 256)) words a (value % 256) low (omega arith)

-- ---- a word of the stack is stored

stack_inside : (parts : Parts) (bytes words : ℕ → ℕ) (a value i q : ℕ) → a % 4 ≡ 0 → stack_start ≤ a → a < memory_end → i < 4 → a + i ≡ q
    → stored (memory_of parts bytes words) 4 a value q ≡ memory_of parts bytes (changed words a value) q
stack_inside parts bytes words a value i q h low high k e =
    let p : q / 4 * 4 ≡ a = omega arith in
    let r : q % 4 ≡ i = omega arith in
    subst (λ (t : ℕ). stored (memory_of parts bytes words) 4 a value t ≡ Some (byte_at i value)) e (stored_inside 4 (memory_of parts bytes words) a value i (omega arith) k)
    ∙ ap Some (ap (λ j. byte_at j value) (sym r) ∙ ap (byte_at (q % 4)) (sym (changed_same words a value (q / 4 * 4) p)))
    ∙ sym (memory_stack parts bytes (changed words a value) q (omega arith) (omega arith))

stack_outside : (parts : Parts) (bytes words : ℕ → ℕ) (a value q : ℕ) → a % 4 ≡ 0 → (q < a) ⊎ (a + 4 ≤ q)
    → memory_of parts bytes words q ≡ memory_of parts bytes (changed words a value) q
stack_outside parts bytes words a value q h o =
    let apart : q / 4 * 4 ≢ a = elim o as (λ _. q / 4 * 4 ≢ a) [ inl p ↦ omega arith | inr p ↦ omega arith ] in
    elim (cases_lt q stack_start) as (λ _. memory_of parts bytes words q ≡ memory_of parts bytes (changed words a value) q) [
      | inl r ↦ off_stack parts bytes words (changed words a value) q (inl r)
      | inr r ↦ elim (cases_lt q memory_end) as (λ _. memory_of parts bytes words q ≡ memory_of parts bytes (changed words a value) q) [
        | inr t ↦ off_stack parts bytes words (changed words a value) q (inr t)
        | inl t ↦ memory_stack parts bytes words q r t ∙ ap (λ (w : ℕ). Some (byte_at (q % 4) w)) (sym (changed_other words a value (q / 4 * 4) apart))
            ∙ sym (memory_stack parts bytes (changed words a value) q r t)
      ]
    ]

-- a word of the stack is stored
pub stack_stored : (parts : Parts) (bytes words : ℕ → ℕ) (a value : ℕ) → a % 4 ≡ 0 → stack_start ≤ a → a < memory_end
    → stored (memory_of parts bytes words) 4 a value ≡ memory_of parts bytes (changed words a value)
stack_stored parts bytes words a value h low high = fun_ext (λ q.
    elim (cases_lt q a) as (λ _. stored (memory_of parts bytes words) 4 a value q ≡ memory_of parts bytes (changed words a value) q) [
      | inl p ↦ stored_outside 4 (memory_of parts bytes words) a value q (inl p) ∙ stack_outside parts bytes words a value q h (inl p)
      | inr p ↦ elim (cases_lt q (a + 4)) as (λ _. stored (memory_of parts bytes words) 4 a value q ≡ memory_of parts bytes (changed words a value) q) [
        | inr r ↦ stored_outside 4 (memory_of parts bytes words) a value q (inr r) ∙ stack_outside parts bytes words a value q h (inr r)
        | inl r ↦ stack_inside parts bytes words a value (q - a) q h low high (omega arith) (omega arith)
      ]
    ])
