-- The memory of core code holds the bytes of the blocks of the source.
use Rattle.std.proofs.Common.{◌≡◌, ◌⊎◌, inl, inr, ℕ, zero, suc, ◌+◌, ◌-◌, ◌*◌, ◌/◌, ◌%◌, ◌≤◌, ◌<◌, ◌==◌, List, [], ◌∷◌, length, map, refl, sym, ◌∙◌, ap, subst, arith, length-set}
use Rattle.std.specs.Prelude.{Bool, true, false, not, ◌&&◌, ◌||◌, if◌then◌else◌, nat_le, nat_lt, slice_index, slice_set, Some, None, option_and_then}
use Rattle.std.specs.Option.{option_map}
use Rattle.std.proofs.lemmas.Bool.{leb-true}
use Rattle.std.proofs.lemmas.List.{get_or-set_same, get_or-set_other}
use Rattle.ckc_base.specs.declared.arithmetic.Width.{Width}
use Rattle.ckc_base.specs.declared.arithmetic.Width.TheVariants.{Byte, Word}
use Rattle.ckc_base.specs.Memory.{Memory, bytes_from, with_byte, with_bytes, width_bytes, value_at, memory_with, is_data, data_start, data_end}
use Rattle.std.specs.List.{list_any}
use Rattle.ckc_base.proofs.Travelling.{below_or_from}
use Rattle.ckc_source.specs.LaidOut.{AreApart}
use Rattle.ckc_source.proofs.Keeping.{length_with, apart_changed}
use Rattle.ckc_source.specs.Blocks.{Block, end_of, has, number_at, with_number, found, loaded, changed, stored}

-- the bytes from an address on are these
abbrev pub Spells : Memory → ℕ → List ℕ → Type 0
Spells memory base bytes = (i : ℕ) → i < length bytes → memory (base + i) ≡ Some (slice_index bytes i)

abbrev pub SameBytes : List Block → Memory → Type 0
SameBytes [] memory = Unit {0}
SameBytes (b ∷ bs) memory = Spells memory b.base b.bytes × SameBytes bs memory

pub and_true : (p q : Bool) → (p && q) ≡ true → (p ≡ true) × (q ≡ true)
and_true true true h = (refl, refl)
and_true true false h = absurd cc
and_true false q h = absurd cc

-- where an access lies in a block
pub inside : (width : Width) (a : ℕ) (b : Block) → has width a b ≡ true → (b.base ≤ a) × (a + width_bytes width ≤ end_of b)
inside width a b h =
    let p = and_true (nat_le b.base a) (nat_le (a + width_bytes width) (end_of b)) h in
    (leb-true b.base a p.0, leb-true (a + width_bytes width) (end_of b) p.1)

-- ---- loads

byte_there : (memory : Memory) (base a i : ℕ) (bytes : List ℕ) → Spells memory base bytes → a ≡ base + i → i < length bytes → memory a ≡ Some (slice_index bytes i)
byte_there memory base a i bytes s e h = ap memory e ∙ s i h

pub joined : (memory : Memory) (count a low high : ℕ) → memory a ≡ Some low → bytes_from memory count (a + 1) ≡ Some high → bytes_from memory (suc count) a ≡ Some (low + 256 * high)
unfolding bytes_from
joined memory count a low high e h =
    ap (λ o. option_and_then (λ low. option_map (λ high. low + 256 * high) (bytes_from memory count (a + 1))) o) e
    ∙ ap (λ o. option_map (λ high. low + 256 * high) o) h

pub none_left : (memory : Memory) (a : ℕ) → bytes_from memory 0 a ≡ Some 0
unfolding bytes_from
none_left memory a = refl

spelled : (width : Width) (memory : Memory) (base a i : ℕ) (bytes : List ℕ) → Spells memory base bytes → a ≡ base + i → i + width_bytes width ≤ length bytes
    → bytes_from memory (width_bytes width) a ≡ Some (number_at width bytes i)
spelled Byte memory base a i bytes s e h =
    joined memory 0 a (slice_index bytes i) 0 (byte_there memory base a i bytes s e (omega arith)) (none_left memory (a + 1))
    ∙ ap Some (omega arith)
spelled Word memory base a i bytes s e h =
    let x = slice_index bytes i in
    let y = slice_index bytes (i + 1) in
    let z = slice_index bytes (i + 2) in
    let w = slice_index bytes (i + 3) in
    let one = joined memory 0 (a + 1 + 1 + 1) w 0 (byte_there memory base (a + 1 + 1 + 1) (i + 3) bytes s (omega arith) (omega arith)) (none_left memory (a + 1 + 1 + 1 + 1)) in
    let two = joined memory 1 (a + 1 + 1) z (w + 256 * 0) (byte_there memory base (a + 1 + 1) (i + 2) bytes s (omega arith) (omega arith)) one in
    let three = joined memory 2 (a + 1) y (z + 256 * (w + 256 * 0)) (byte_there memory base (a + 1) (i + 1) bytes s (omega arith) (omega arith)) two in
    joined memory 3 a x (y + 256 * (z + 256 * (w + 256 * 0))) (byte_there memory base a i bytes s e (omega arith)) three
    ∙ ap Some (omega arith)

found_by : (width : Width) (a n : ℕ) (b : Block) (bs : List Block) (memory : Memory) → Spells memory b.base b.bytes
    → (found width a bs ≡ Some n → bytes_from memory (width_bytes width) a ≡ Some n) → (here : Bool) → has width a b ≡ here
    → (if here then Some (number_at width b.bytes (a - b.base)) else found width a bs) ≡ Some n
    → bytes_from memory (width_bytes width) a ≡ Some n
found_by width a n b bs memory s again true h e =
    let p = inside width a b h in
    spelled width memory b.base a (a - b.base) b.bytes s (omega (arith, p.0)) (omega (arith, p.0, p.1)) ∙ e
found_by width a n b bs memory s again false h e = again e

-- what is found in the blocks is in the memory
found_there : (width : Width) (a n : ℕ) (bs : List Block) (memory : Memory) → SameBytes bs memory → found width a bs ≡ Some n
    → bytes_from memory (width_bytes width) a ≡ Some n
unfolding found
found_there width a n [] memory s e = absurd cc
found_there width a n (b ∷ bs) memory s e =
    found_by width a n b bs memory s.0 (λ h. found_there width a n bs memory s.1 h) (has width a b) refl e

pub loaded_there : (width : Width) (a n : ℕ) (bs : List Block) (memory : Memory) → SameBytes bs memory → loaded width a bs ≡ Some n
    → value_at width memory a ≡ Some n
loaded_there width a n bs memory s e = by (a % width_bytes width == 0) e
  where
    by : (even : Bool) → (if even then found width a bs else None) ≡ Some n
        → (if even then bytes_from memory (width_bytes width) a else None) ≡ Some n
    by true e = found_there width a n bs memory s e
    by false e = absurd cc

-- ---- stores

abbrev digit : ℕ → ℕ → ℕ
digit n zero = n % 256
digit n (suc zero) = n / 256 % 256
digit n (suc (suc zero)) = n / 65536 % 256
digit n (suc (suc (suc k))) = n / 16777216 % 256

byte_same : (memory : Memory) (a v q : ℕ) → q ≡ a → with_byte memory a v q ≡ Some v
unfolding with_byte
byte_same memory a v q e =
    let t : (q == a) ≡ true = grind arith in
    ap (λ c. if c then Some v else memory q) t

byte_other : (memory : Memory) (a v q : ℕ) → (q < a) ⊎ (a < q) → with_byte memory a v q ≡ memory q
unfolding with_byte
byte_other memory a v q (inl h) =
    let t : (q == a) ≡ false = grind arith in
    ap (λ c. if c then Some v else memory q) t
byte_other memory a v q (inr h) =
    let t : (q == a) ≡ false = grind arith in
    ap (λ c. if c then Some v else memory q) t

-- ahead of the bytes that are written
pub ahead : (memory : Memory) (count a n q : ℕ) → q < a → with_bytes memory count a n q ≡ memory q
unfolding with_bytes
ahead memory zero a n q h = refl
ahead memory (suc count) a n q h =
    byte_other (with_bytes memory count (a + 1) (n / 256)) a (n % 256) q (inl h) ∙ ahead memory count (a + 1) (n / 256) q (omega arith)

pub past : (memory : Memory) (count a n q : ℕ) → a + count ≤ q → with_bytes memory count a n q ≡ memory q
unfolding with_bytes
past memory zero a n q h = refl
past memory (suc count) a n q h =
    byte_other (with_bytes memory count (a + 1) (n / 256)) a (n % 256) q (inr (omega arith)) ∙ past memory count (a + 1) (n / 256) q (omega arith)

first_byte : (memory : Memory) (count a n q : ℕ) → q ≡ a → with_bytes memory (suc count) a n q ≡ Some (n % 256)
unfolding with_bytes
first_byte memory count a n q e = byte_same (with_bytes memory count (a + 1) (n / 256)) a (n % 256) q e

later_byte : (memory : Memory) (count a n q : ℕ) → a < q → with_bytes memory (suc count) a n q ≡ with_bytes memory count (a + 1) (n / 256) q
unfolding with_bytes
later_byte memory count a n q h = byte_other (with_bytes memory count (a + 1) (n / 256)) a (n % 256) q (inr h)

pub written_digit : (width : Width) (memory : Memory) (a n k q : ℕ) → k < width_bytes width → q ≡ a + k
    → with_bytes memory (width_bytes width) a n q ≡ Some (digit n k)
written_digit Byte memory a n zero q h e = first_byte memory 0 a n q (omega arith)
written_digit Byte memory a n (suc k) q h e = absurd (omega arith)
written_digit Word memory a n zero q h e = first_byte memory 3 a n q (omega arith)
written_digit Word memory a n (suc zero) q h e =
    later_byte memory 3 a n q (omega arith) ∙ first_byte memory 2 (a + 1) (n / 256) q (omega arith)
written_digit Word memory a n (suc (suc zero)) q h e =
    later_byte memory 3 a n q (omega arith) ∙ later_byte memory 2 (a + 1) (n / 256) q (omega arith)
    ∙ first_byte memory 1 (a + 1 + 1) (n / 256 / 256) q (omega arith) ∙ ap Some (omega arith)
written_digit Word memory a n (suc (suc (suc zero))) q h e =
    later_byte memory 3 a n q (omega arith) ∙ later_byte memory 2 (a + 1) (n / 256) q (omega arith)
    ∙ later_byte memory 1 (a + 1 + 1) (n / 256 / 256) q (omega arith)
    ∙ first_byte memory 0 (a + 1 + 1 + 1) (n / 256 / 256 / 256) q (omega arith) ∙ ap Some (omega arith)
written_digit Word memory a n (suc (suc (suc (suc k)))) q h e = absurd (omega arith)

set_same : (xs : List ℕ) (i j v : ℕ) → j ≡ i → i < length xs → slice_index (slice_set xs i v) j ≡ v
set_same xs i j v e h = ap (slice_index (slice_set xs i v)) e ∙ get_or-set_same xs i v 0 h

set_other : (xs : List ℕ) (i j v : ℕ) → (j < i) ⊎ (i < j) → slice_index (slice_set xs i v) j ≡ slice_index xs j
set_other xs i j v (inl h) = get_or-set_other xs i j v 0 (λ e. omega arith)
set_other xs i j v (inr h) = get_or-set_other xs i j v 0 (λ e. omega arith)

four_digits : (xs : List ℕ) (i d0 d1 d2 d3 : ℕ) → i + 4 ≤ length xs
    → let ys = slice_set (slice_set (slice_set (slice_set xs i d0) (i + 1) d1) (i + 2) d2) (i + 3) d3 in
    (slice_index ys i ≡ d0) × (slice_index ys (i + 1) ≡ d1) × (slice_index ys (i + 2) ≡ d2) × (slice_index ys (i + 3) ≡ d3)
four_digits xs i d0 d1 d2 d3 h =
    let x = slice_set xs i d0 in
    let y = slice_set x (i + 1) d1 in
    let z = slice_set y (i + 2) d2 in
    let lx : length x ≡ length xs = length-set xs i d0 in
    let ly : length y ≡ length x = length-set x (i + 1) d1 in
    let lz : length z ≡ length y = length-set y (i + 2) d2 in (
      set_other z (i + 3) i d3 (inl (omega arith)) ∙ set_other y (i + 2) i d2 (inl (omega arith)) ∙ set_other x (i + 1) i d1 (inl (omega arith)) ∙ set_same xs i i d0 refl (omega arith),
      set_other z (i + 3) (i + 1) d3 (inl (omega arith)) ∙ set_other y (i + 2) (i + 1) d2 (inl (omega arith)) ∙ set_same x (i + 1) (i + 1) d1 refl (omega arith),
      set_other z (i + 3) (i + 2) d3 (inl (omega arith)) ∙ set_same y (i + 2) (i + 2) d2 refl (omega arith),
      set_same z (i + 3) (i + 3) d3 refl (omega arith),
    )

number_digit : (width : Width) (xs : List ℕ) (i n k : ℕ) → k < width_bytes width → i + width_bytes width ≤ length xs
    → slice_index (with_number width xs i n) (i + k) ≡ digit n k
number_digit Byte xs i n zero h l = set_same xs i (i + 0) (n % 256) (omega arith) (omega arith)
number_digit Byte xs i n (suc k) h l = absurd (omega arith)
number_digit Word xs i n zero h l =
    let e : i + 0 ≡ i = omega arith in
    ap (slice_index (with_number Word xs i n)) e ∙ (four_digits xs i (n % 256) (n / 256 % 256) (n / 65536 % 256) (n / 16777216 % 256) l).0
number_digit Word xs i n (suc zero) h l = (four_digits xs i (n % 256) (n / 256 % 256) (n / 65536 % 256) (n / 16777216 % 256) l).1
number_digit Word xs i n (suc (suc zero)) h l = (four_digits xs i (n % 256) (n / 256 % 256) (n / 65536 % 256) (n / 16777216 % 256) l).2
number_digit Word xs i n (suc (suc (suc zero))) h l = (four_digits xs i (n % 256) (n / 256 % 256) (n / 65536 % 256) (n / 16777216 % 256) l).3
number_digit Word xs i n (suc (suc (suc (suc k)))) h l = absurd (omega arith)

number_ahead : (width : Width) (xs : List ℕ) (i n j : ℕ) → j < i → slice_index (with_number width xs i n) j ≡ slice_index xs j
number_ahead Byte xs i n j h = set_other xs i j (n % 256) (inl h)
number_ahead Word xs i n j h =
    set_other _ (i + 3) j _ (inl (omega arith)) ∙ set_other _ (i + 2) j _ (inl (omega arith))
    ∙ set_other _ (i + 1) j _ (inl (omega arith)) ∙ set_other xs i j (n % 256) (inl h)

number_past : (width : Width) (xs : List ℕ) (i n j : ℕ) → i + width_bytes width ≤ j → slice_index (with_number width xs i n) j ≡ slice_index xs j
number_past Byte xs i n j h = set_other xs i j (n % 256) (inr (omega arith))
number_past Word xs i n j h =
    set_other _ (i + 3) j _ (inr (omega arith)) ∙ set_other _ (i + 2) j _ (inr (omega arith))
    ∙ set_other _ (i + 1) j _ (inr (omega arith)) ∙ set_other xs i j (n % 256) (inr (omega arith))

-- a number is ahead of a range, in it, or past it
ranged : (j i w : ℕ) → (j < i) ⊎ (((k : ℕ) × (k < w) × (j ≡ i + k)) ⊎ (i + w ≤ j))
ranged j i w =
    elim (below_or_from j i) [
      | inl h ↦ inl h
      | inr p ↦ inr (elim (below_or_from p.0 w) [
        | inl h ↦ inl (p.0, h, p.1)
        | inr q ↦ inr (omega (arith, p.1, q.1))
      ])
    ]

spells_stored : (width : Width) (memory : Memory) (base a i n : ℕ) (bytes : List ℕ) → Spells memory base bytes → a ≡ base + i → i + width_bytes width ≤ length bytes
    → Spells (with_bytes memory (width_bytes width) a n) base (with_number width bytes i n)
spells_stored width memory base a i n bytes s e l j h =
    let same : length (with_number width bytes i n) ≡ length bytes = length_with width bytes i n in
    elim (ranged j i (width_bytes width)) [
      | inl less ↦
          ahead memory (width_bytes width) a n (base + j) (omega arith) ∙ s j (omega arith)
          ∙ ap Some (sym (number_ahead width bytes i n j less))
      | inr r ↦ elim r [
        | inl p ↦
            let at : base + j ≡ a + p.0 = omega (arith, p.2) in
            written_digit width memory a n p.0 (base + j) p.1 at
            ∙ ap Some (sym (ap (slice_index (with_number width bytes i n)) p.2 ∙ number_digit width bytes i n p.0 p.1 l))
        | inr more ↦
            past memory (width_bytes width) a n (base + j) (omega arith) ∙ s j (omega arith)
            ∙ ap Some (sym (number_past width bytes i n j more))
      ]
    ]

pub spells_kept : (memory : Memory) (count base a n : ℕ) (bytes : List ℕ) → Spells memory base bytes → (base + length bytes ≤ a) ⊎ (a + count ≤ base)
    → Spells (with_bytes memory count a n) base bytes
spells_kept memory count base a n bytes s (inl h) = λ j l. ahead memory count a n (base + j) (omega arith) ∙ s j l
spells_kept memory count base a n bytes s (inr h) = λ j l. past memory count a n (base + j) (omega arith) ∙ s j l

-- blocks after the access are as they were
changed_above : (width : Width) (a n low limit : ℕ) (memory : Memory) (bs : List Block) → AreApart low bs limit → a + width_bytes width ≤ low → 1 ≤ width_bytes width
    → SameBytes bs memory → SameBytes (map (changed width a n) bs) (with_bytes memory (width_bytes width) a n)
changed_above width a n low limit memory [] apart l one s = tt
changed_above width a n low limit memory (b ∷ bs) apart l one s =
    (by (has width a b) refl, changed_above width a n (end_of b + 1) limit memory bs apart.1 (omega (arith, apart.0)) one s.1)
  where
    by : (here : Bool) → has width a b ≡ here
        → (let c = if here then record b { bytes = with_number width b.bytes (a - b.base) n } else b in Spells (with_bytes memory (width_bytes width) a n) c.base c.bytes)
    by true h = absurd (omega (arith, inside width a b h, apart.0, l, one))
    by false h = spells_kept memory (width_bytes width) b.base a n b.bytes s.0 (inr (omega (arith, apart.0, l)))

pub apart_ordered : (low limit : ℕ) (bs : List Block) → AreApart low bs limit → low ≤ limit
apart_ordered low limit [] apart = apart
apart_ordered low limit (b ∷ bs) apart =
    let h = apart_ordered (end_of b + 1) limit bs apart.1 in
    omega (arith, apart.0, h)

-- an access that lies in a block lies above where the blocks begin and before the byte in front of their limit
pub any_within : (width : Width) (a low limit : ℕ) (bs : List Block) → AreApart low bs limit → list_any (has width a) bs ≡ true
    → (low ≤ a) × (a + width_bytes width + 1 ≤ limit)
any_within width a low limit [] apart h = absurd cc
any_within width a low limit (b ∷ bs) apart h =
    by (has width a b) refl h (λ k. any_within width a (end_of b + 1) limit bs apart.1 k) (apart_ordered (end_of b + 1) limit bs apart.1)
  where
    by : (here : Bool) → has width a b ≡ here → (here || list_any (has width a) bs) ≡ true
        → (list_any (has width a) bs ≡ true → (end_of b + 1 ≤ a) × (a + width_bytes width + 1 ≤ limit)) → end_of b + 1 ≤ limit
        → (low ≤ a) × (a + width_bytes width + 1 ≤ limit)
    by true e h again o = let p = inside width a b e in (omega (arith, p.0, apart.0), omega (arith, p.1))
    by false e h again o = let p = again h in (omega (arith, p.0, apart.0), p.1)

changed_stored : (width : Width) (a n low limit : ℕ) (memory : Memory) (bs : List Block) → AreApart low bs limit → list_any (has width a) bs ≡ true → 1 ≤ width_bytes width
    → SameBytes bs memory → SameBytes (map (changed width a n) bs) (with_bytes memory (width_bytes width) a n)
changed_stored width a n low limit memory [] apart h one s = tt
changed_stored width a n low limit memory (b ∷ bs) apart h one s =
    by (has width a b) refl h
    (λ k. changed_stored width a n (end_of b + 1) limit memory bs apart.1 k one s.1)
  where
    by : (here : Bool) → has width a b ≡ here → (here || list_any (has width a) bs) ≡ true
        → (list_any (has width a) bs ≡ true → SameBytes (map (changed width a n) bs) (with_bytes memory (width_bytes width) a n))
        → (let c = if here then record b { bytes = with_number width b.bytes (a - b.base) n } else b in
        Spells (with_bytes memory (width_bytes width) a n) c.base c.bytes × SameBytes (map (changed width a n) bs) (with_bytes memory (width_bytes width) a n))
    by true e h again =
        let p = inside width a b e in (
          spells_stored width memory b.base a (a - b.base) n b.bytes s.0 (omega (arith, p.0)) (omega (arith, p.0, p.1)),
          changed_above width a n (end_of b + 1) limit memory bs apart.1 (omega (arith, p.1)) one s.1,
        )
    by false e h again =
        let p = any_within width a (end_of b + 1) limit bs apart.1 h in
        (spells_kept memory (width_bytes width) b.base a n b.bytes s.0 (inl (omega (arith, p.0))), again h)

pub one_byte : (width : Width) → 1 ≤ width_bytes width
one_byte Byte = omega arith
one_byte Word = omega arith

pub in_data : (a : ℕ) → data_start ≤ a → a < data_end → is_data a ≡ true
in_data a h k =
    let p : nat_lt a data_start ≡ false = grind arith in
    let q : nat_lt a data_end ≡ true = grind arith in
    ap (λ x. not x && nat_lt a data_end) p ∙ q

-- What is stored in the blocks is stored in the memory.
pub stored_there : (width : Width) (a n low limit : ℕ) (bs cs : List Block) (memory : Memory) → AreApart low bs limit → data_start ≤ low → limit ≤ data_end + 1
    → SameBytes bs memory → stored width a n bs ≡ Some cs
    → (memory_with width memory a n ≡ Some (with_bytes memory (width_bytes width) a n))
    × SameBytes cs (with_bytes memory (width_bytes width) a n) × AreApart low cs limit
stored_there width a n low limit bs cs memory apart start ends s e =
    by (a % width_bytes width == 0) refl (list_any (has width a) bs) refl e
  where
    by : (even : Bool) → (a % width_bytes width == 0) ≡ even → (any : Bool) → list_any (has width a) bs ≡ any
        → (if even && any then Some (map (changed width a n) bs) else None) ≡ Some cs
        → ((if even && is_data a then Some (with_bytes memory (width_bytes width) a n) else None) ≡ Some (with_bytes memory (width_bytes width) a n))
        × SameBytes cs (with_bytes memory (width_bytes width) a n) × AreApart low cs limit
    by true x true y h =
        let same : map (changed width a n) bs ≡ cs = cc in
        let p = any_within width a low limit bs apart y in
        let d : is_data a ≡ true = in_data a (omega (arith, p.0)) (omega (arith, p.1, one_byte width)) in (
          ap (λ c. if c then Some (with_bytes memory (width_bytes width) a n) else None) d,
          subst (λ cs. SameBytes cs (with_bytes memory (width_bytes width) a n)) same (changed_stored width a n low limit memory bs apart y (one_byte width) s),
          subst (λ cs. AreApart low cs limit) same (apart_changed width a n low bs limit apart),
        )
    by true x false y h = absurd cc
    by false x any y h = absurd cc
