-- The blocks of the source stand in the flat memory of core code.
use Rattle.std.proofs.Common.{◌≡◌, inr, ℕ, zero, suc, ◌+◌, ◌-◌, ◌*◌, ◌/◌, ◌%◌, ◌^◌, ◌≤◌, ◌<◌, ◌==◌, List, [], ◌∷◌, ◌++◌, length, refl, sym, ◌∙◌, ap, subst, arith, mul_comm, le_refl}
use Rattle.std.specs.Prelude.{Bool, IsTrue, true, false, ◌&&◌, ◌||◌, if◌then◌else◌, nat_lt, nat_le, map, Option, Some, None, option_and_then}
use Rattle.std.specs.Option.{option_map}
use Rattle.std.specs.List.{list_any}
use Rattle.std.proofs.lemmas.Bool.{leb-true}
use Rattle.std.proofs.lemmas.List.{get_or-replicate, length-replicate}
use Rattle.ckc_base.specs.declared.arithmetic.Width.{Width}
use Rattle.ckc_base.specs.declared.arithmetic.Width.TheVariants.{Byte, Word}
use Rattle.ckc_base.specs.Memory.{Memory, bytes_from, with_byte, with_bytes, width_bytes, value_at, memory_with, data_start, data_end, heap_has_room, next_place}
use Rattle.ckc_source.specs.declared.expr.Pointee.{Pointee}
use Rattle.ckc_source.specs.LaidOut.{AreApart}
use Rattle.ckc_source.specs.Blocks.{Block, end_of, has, loaded, with_number, lies_in, changed, stored, fresh, first_place}
use Rattle.ckc_source.proofs.Keeping.{apart_snoc, apart_changed, length_with}
use Rattle.ckc_checks_follow.proofs.Bytes.{Spells, SameBytes, and_true, loaded_there, joined, none_left, ahead, past, written_digit, spells_kept, apart_ordered, any_within, stored_there}

-- each byte of the memory is one
abbrev pub HoldsBytes : Memory → Type 0
HoldsBytes memory = (q b : ℕ) → memory q ≡ Some b → b < 256

-- Each block's bytes stand at its addresses. The blocks lie apart below the next place and in the region. From the next
-- place on all is zero, and the heap word is the next place.
pub record SameMemory (blocks : List Block) (next : ℕ) (memory : Memory) : Type 0 where
  pub bytes : SameBytes blocks memory
  pub apart : AreApart first_place blocks next
  pub within : AreApart first_place blocks (data_end + 1)
  pub holds : HoldsBytes memory
  pub zeros : (a : ℕ) → next ≤ a → a < data_end → memory a ≡ Some 0
  pub word : bytes_from memory 4 data_start ≡ Some next
  pub low : next ≤ data_end + 15

-- ---- words

abbrev power : ℕ → ℕ
power zero = 1
power (suc n) = 256 * power n

bytes_small : (memory : Memory) (count a n : ℕ) → HoldsBytes memory → bytes_from memory count a ≡ Some n → n < power count
unfolding bytes_from
bytes_small memory zero a n h e = let same : 0 ≡ n = cc in omega arith
bytes_small memory (suc count) a n h e =
    by (memory a) refl (bytes_from memory count (a + 1)) (λ high k. bytes_small memory count (a + 1) high h k) e
  where
    by : (o : Option ℕ) → memory a ≡ o → (r : Option ℕ) → ((high : ℕ) → r ≡ Some high → high < power count)
        → option_and_then (λ low. option_map (λ high. low + 256 * high) r) o ≡ Some n → n < 256 * power count
    by None x r y e = absurd cc
    by (Some low) x None y e = absurd cc
    by (Some low) x (Some high) y e =
        let same : low + 256 * high ≡ n = cc in
        omega (arith, h a low x, y high refl)

value_small : (width : Width) (memory : Memory) (a n : ℕ) → HoldsBytes memory → value_at width memory a ≡ Some n → n < 2 ^ 32
value_small Byte memory a n h e = by (a % 1 == 0) e
  where
    by : (even : Bool) → (if even then bytes_from memory 1 a else None) ≡ Some n → n < 2 ^ 32
    by true e = let small : n < power 1 = bytes_small memory 1 a n h e in omega arith
    by false e = absurd cc
value_small Word memory a n h e = by (a % 4 == 0) e
  where
    by : (even : Bool) → (if even then bytes_from memory 4 a else None) ≡ Some n → n < 2 ^ 32
    by true e = let small : n < power 4 = bytes_small memory 4 a n h e in omega arith
    by false e = absurd cc

-- what is loaded from a block is a word
pub loaded_word : (width : Width) (a n next : ℕ) (bs : List Block) (memory : Memory) → SameMemory bs next memory → loaded width a bs ≡ Some n → n < 2 ^ 32
loaded_word width a n next bs memory m e = value_small width memory a n m.holds (loaded_there width a n bs memory m.bytes e)

-- ---- what is kept by a write of bytes

holds_byte : (memory : Memory) (a v : ℕ) → HoldsBytes memory → v < 256 → HoldsBytes (with_byte memory a v)
unfolding with_byte
holds_byte memory a v h small q b e = by (q == a) e
  where
    by : (same : Bool) → (if same then Some v else memory q) ≡ Some b → b < 256
    by true e = let same : v ≡ b = cc in omega arith
    by false e = h q b e

holds_written : (memory : Memory) (count a v : ℕ) → HoldsBytes memory → HoldsBytes (with_bytes memory count a v)
unfolding with_bytes
holds_written memory zero a v h = h
holds_written memory (suc count) a v h =
    holds_byte (with_bytes memory count (a + 1) (v / 256)) a (v % 256) (holds_written memory count (a + 1) (v / 256) h) (omega arith)

same_from : (memory other : Memory) (count a : ℕ) → ((q : ℕ) → a ≤ q → q < a + count → other q ≡ memory q) → bytes_from other count a ≡ bytes_from memory count a
unfolding bytes_from
same_from memory other zero a h = refl
same_from memory other (suc count) a h =
    ap (λ o. option_and_then (λ low. option_map (λ high. low + 256 * high) (bytes_from other count (a + 1))) o) (h a (omega arith) (omega arith))
    ∙ ap (λ r. option_and_then (λ low. option_map (λ high. low + 256 * high) r) (memory a)) (same_from memory other count (a + 1) (λ q x y. h q (omega arith) (omega arith)))

same_kept : (count a v low limit : ℕ) (bs : List Block) (memory : Memory) → AreApart low bs limit → a + count ≤ low → SameBytes bs memory → SameBytes bs (with_bytes memory count a v)
same_kept count a v low limit [] memory apart h s = tt
same_kept count a v low limit (b ∷ bs) memory apart h s = (
  spells_kept memory count b.base a v b.bytes s.0 (inr (omega (arith, apart.0))),
  same_kept count a v (end_of b + 1) limit bs memory apart.1 (omega (arith, apart.0)) s.1,
)

-- ---- stores

stored_is : (width : Width) (a n : ℕ) (bs cs : List Block) → stored width a n bs ≡ Some cs → (list_any (has width a) bs ≡ true) × (map (changed width a n) bs ≡ cs)
stored_is width a n bs cs e = by (a % width_bytes width == 0) (list_any (has width a) bs) e
  where
    by : (even any : Bool) → (if even && any then Some (map (changed width a n) bs) else None) ≡ Some cs → (any ≡ true) × (map (changed width a n) bs ≡ cs)
    by true true e = (refl, cc)
    by true false e = absurd cc
    by false any e = absurd cc

same_has : (width : Width) (a n : ℕ) (b : Block) → has width a (changed width a n b) ≡ has width a b
same_has width a n b = by (has width a b)
  where
    by : (inside : Bool) → has width a (if inside then record b { bytes = with_number width b.bytes (a - b.base) n } else b) ≡ has width a b
    by true = ap (λ k. nat_le b.base a && nat_le (a + width_bytes width) (b.base + k)) (length_with width b.bytes (a - b.base) n)
    by false = refl

any_has : (width : Width) (a n : ℕ) (bs : List Block) → list_any (has width a) (map (changed width a n) bs) ≡ list_any (has width a) bs
any_has width a n [] = refl
any_has width a n (b ∷ bs) =
    ap (λ c. c || list_any (has width a) (map (changed width a n) bs)) (same_has width a n b) ∙ ap (λ c. has width a b || c) (any_has width a n bs)

-- what is stored lies in a block after the store
pub stored_lies : (width : Width) (a n : ℕ) (bs cs : List Block) → stored width a n bs ≡ Some cs → IsTrue (lies_in width a cs)
stored_lies width a n bs cs e = by (a % width_bytes width == 0) (list_any (has width a) bs) (any_has width a n bs) e
  where
    by : (even any : Bool) → list_any (has width a) (map (changed width a n) bs) ≡ any → (if even && any then Some (map (changed width a n) bs) else None) ≡ Some cs → IsTrue (even && list_any (has width a) cs)
    by true true h e = let is : map (changed width a n) bs ≡ cs = cc in subst (λ l. IsTrue (list_any (has width a) l)) is h
    by true false h e = absurd cc
    by false any h e = absurd cc

-- a store into a block that has the access
pub stored_same : (width : Width) (a n next : ℕ) (bs cs : List Block) (memory : Memory) → SameMemory bs next memory → stored width a n bs ≡ Some cs
    → (memory_with width memory a n ≡ Some (with_bytes memory (width_bytes width) a n)) × SameMemory cs next (with_bytes memory (width_bytes width) a n)
stored_same width a n next bs cs memory m e =
    let p = stored_there width a n first_place (data_end + 1) bs cs memory m.within (omega arith) (omega arith) m.bytes e in
    let is = stored_is width a n bs cs e in
    let place = any_within width a first_place next bs m.apart is.0 in (
      p.0,
      record {
        bytes = p.1;
        apart = subst (λ cs. AreApart first_place cs next) is.1 (apart_changed width a n first_place bs next m.apart);
        within = p.2;
        holds = holds_written memory (width_bytes width) a n m.holds;
        zeros = λ x h k. past memory (width_bytes width) a n x (omega (arith, place.1)) ∙ m.zeros x h k;
        word = same_from memory (with_bytes memory (width_bytes width) a n) 4 data_start
            (λ q h k. ahead memory (width_bytes width) a n q (omega (arith, place.0))) ∙ m.word;
        low = m.low;
      },
    )

-- ---- fresh blocks

same_snoc : (bs : List Block) (b : Block) (memory : Memory) → SameBytes bs memory → Spells memory b.base b.bytes → SameBytes (bs ++ b ∷ []) memory
same_snoc [] b memory s h = (h, tt)
same_snoc (c ∷ bs) b memory s h = (s.0, same_snoc bs b memory s.1 h)

fresh_length : (to : Pointee) (base count : ℕ) → length (fresh to base count).bytes ≡ count * to.size
fresh_length to base count = length-replicate {A = ℕ} (to.size * count) 0 ∙ mul_comm to.size count

-- a word in memory is read back
word_back : (memory : Memory) (a v : ℕ) → v < 2 ^ 32 → bytes_from (with_bytes memory 4 a v) 4 a ≡ Some v
word_back memory a v h =
    let m = with_bytes memory 4 a v in
    let x = v % 256 in
    let y = v / 256 % 256 in
    let z = v / 65536 % 256 in
    let w = v / 16777216 % 256 in
    let one = joined m 0 (a + 1 + 1 + 1) w 0 (written_digit Word memory a v 3 (a + 1 + 1 + 1) (omega arith) (omega arith)) (none_left m (a + 1 + 1 + 1 + 1)) in
    let two = joined m 1 (a + 1 + 1) z (w + 256 * 0) (written_digit Word memory a v 2 (a + 1 + 1) (omega arith) (omega arith)) one in
    let three = joined m 2 (a + 1) y (z + 256 * (w + 256 * 0)) (written_digit Word memory a v 1 (a + 1) (omega arith) (omega arith)) two in
    joined m 3 a x (y + 256 * (z + 256 * (w + 256 * 0))) (written_digit Word memory a v 0 a (omega arith) (omega arith)) three
    ∙ ap Some (omega arith)

room_is : (next count size : ℕ) → heap_has_room next count size ≡ true → next + count * size ≤ data_end
room_is next count size e =
    let p = and_true (nat_lt 0 count && nat_lt count (2 ^ 31)) (nat_le (next + count * size) data_end) e in
    leb-true (next + count * size) data_end p.1

-- room is taken for a block of zeros
pub allocated_same : (to : Pointee) (count next : ℕ) (bs : List Block) (memory : Memory) → SameMemory bs next memory → heap_has_room next count to.size ≡ true
    → SameMemory (bs ++ fresh to next count ∷ []) (next_place next count to.size) (with_bytes memory 4 data_start (next_place next count to.size))
allocated_same to count next bs memory m room =
    let later = next_place next count to.size in
    let after = with_bytes memory 4 data_start later in
    let b = fresh to next count in
    let size = fresh_length to next count in
    let fits = room_is next count to.size room in
    let first = apart_ordered first_place next bs m.apart in
    let low : later ≤ data_end + 15 = omega (arith, fits) in
    let ends : end_of b + 1 ≤ later = omega (arith, size) in
    let inside : end_of b + 1 ≤ data_end + 1 = omega (arith, size, fits) in
    let all_apart : AreApart first_place bs next = m.apart in
    let spelled : Spells after next b.bytes =
    λ i h. past memory 4 data_start later (next + i) (omega (arith, first)) ∙ m.zeros (next + i) (omega arith) (omega (arith, h, size, fits))
    ∙ ap Some (sym (get_or-replicate (to.size * count) i 0 0 (omega (arith, h, size, mul_comm to.size count)))) in
    record {
      bytes = same_snoc bs b after (same_kept 4 data_start later first_place next bs memory m.apart (omega arith) m.bytes) spelled;
      apart = apart_snoc first_place bs next b later m.apart (le_refl next) ends;
      within = apart_snoc first_place bs next b (data_end + 1) m.apart (le_refl next) inside;
      holds = holds_written memory 4 data_start later m.holds;
      zeros = λ x h k. past memory 4 data_start later x (omega (arith, first)) ∙ m.zeros x (omega (arith, ends)) k;
      word = word_back memory data_start later (omega (arith, low));
      low = low;
    }
