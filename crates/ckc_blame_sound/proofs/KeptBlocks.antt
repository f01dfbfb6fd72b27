-- A store to a part of an element keeps how the blocks lie, and the last elements of null-terminated ones.
use Rattle.std.proofs.Common.{◌≡◌, ◌⊎◌, ⊎_elim, inl, inr, ℕ, zero, suc, ◌+◌, ◌-◌, ◌*◌, ◌/◌, ◌%◌, ◌≤◌, ◌<◌, List, [], ◌∷◌, length, map, refl, sym, ◌∙◌, ap, subst, arith}
use Rattle.std.specs.Prelude.{Bool, true, false, slice_index, slice_set, slice_get, Some}
use Rattle.std.specs.List.{All}
use Rattle.std.proofs.lemmas.List.Elements.{All-nil, All-cons, All-head, All-tail}
use Rattle.std.proofs.Math.Nat.{mul_comm}
use Rattle.ckc_base.specs.declared.arithmetic.Width.{Width}
use Rattle.ckc_base.specs.declared.arithmetic.Width.TheVariants.{Byte, Word}
use Rattle.ckc_base.specs.Memory.{width_bytes, kept_part}
use Rattle.ckc_typed.specs.declared.typed.Typed.{Typed}
use Rattle.ckc_source.specs.declared.program.Object.{Object}
use Rattle.ckc_source.specs.Blocks.{Block, block_of, has, with_number, changed, stored}
use Rattle.ckc_source.proofs.Keeping.{apart_changed}
use Rattle.ckc_blame_sound.specs.Sound.{IsPlaced, IsTerminated, AreObjects}
use Rattle.ckc_blame_sound.specs.Cells.{IsCell, AreSound}
use Rattle.ckc_blame_sound.proofs.Bytes.{hold_changed}
use Rattle.ckc_blame_sound.proofs.Places.{element_between}
use Rattle.ckc_blame_sound.proofs.Stores.{inside, byte_other, with_access, same_length, stored_parts}
use Rattle.ckc_blame_sound.proofs.Apart.{behind, three, cell_spans, placed_at, Spans}

-- ---- zeros

set_zero : (xs : List ℕ) (i v k : ℕ) → v ≡ 0 → slice_index xs k ≡ 0 → slice_index (slice_set xs i v) k ≡ 0
set_zero [] i v k e h = h
set_zero (x ∷ xs) zero v zero e h = e
set_zero (x ∷ xs) zero v (suc k) e h = h
set_zero (x ∷ xs) (suc i) v zero e h = h
set_zero (x ∷ xs) (suc i) v (suc k) e h = set_zero xs i v k e h

-- zero is stored: a byte that was zero is so after it
with_zero : (width : Width) (bytes : List ℕ) (i n k : ℕ) → kept_part width n ≡ 0 → slice_index bytes k ≡ 0 → slice_index (with_number width bytes i n) k ≡ 0
with_zero Byte bytes i n k e h = set_zero bytes i (n % 256) k e h
with_zero Word bytes i n k e h =
    let one = set_zero bytes i (n % 256) k (omega arith) h in
    let two = set_zero (slice_set bytes i (n % 256)) (i + 1) (n / 256 % 256) k (omega arith) one in
    let three = set_zero (slice_set (slice_set bytes i (n % 256)) (i + 1) (n / 256 % 256)) (i + 2) (n / 65536 % 256) k (omega arith) two in
    set_zero _ (i + 3) (n / 16777216 % 256) k (omega arith) three

-- ---- one block

module _ (p : Typed) (width : Width) (a n : ℕ) where
  -- what a store does not touch, or touches with zero
  abbrev SparesEnd : Block → Type 0
  SparesEnd b = b.terminated ≡ true → has width a b ≡ true → (a - b.base + width_bytes width ≤ b.size * (b.count - 1)) ⊎ (kept_part width n ≡ 0)

  still_terminated : (b : Block) → IsTerminated b → (a - b.base + width_bytes width ≤ b.size * (b.count - 1)) ⊎ (kept_part width n ≡ 0)
      → IsTerminated (with_access width a n b true)
  still_terminated b t h = record {
    integers = t.integers;
    some = t.some;
    zero = λ i l. ⊎_elim
        (λ k. byte_other width b.bytes (a - b.base) n (b.size * (b.count - 1) + i) (inr (omega arith)) ∙ t.zero i l)
        (λ e. with_zero width b.bytes (a - b.base) n (b.size * (b.count - 1) + i) e (t.zero i l))
        h;
  }

  still_placed : (b : Block) (here : Bool) → has width a b ≡ here → IsPlaced p b → SparesEnd b → IsPlaced p (with_access width a n b here)
  still_placed b false e placed h = placed
  still_placed b true e placed h =
      let long = same_length width a n b true in
      let below = placed.below in
      record {
        aligned = placed.aligned;
        above = placed.above;
        below = omega arith;
        size = placed.size;
        sized = placed.sized;
        whole = long ∙ placed.whole;
        terminated = λ t. still_terminated b (placed.terminated t) (h t e);
      }

  all_placed : (bs : List Block) → All (IsPlaced p) bs → ((k : ℕ) (b : Block) → slice_get bs k ≡ Some b → SparesEnd b) → All (IsPlaced p) (map (changed width a n) bs)
  all_placed [] all h = All-nil (IsPlaced p)
  all_placed (b ∷ bs) all h =
      All-cons (IsPlaced p) (changed width a n b) (map (changed width a n) bs)
      (still_placed b (has width a b) refl (All-head (IsPlaced p) b bs all) (h 0 b refl))
      (all_placed bs (All-tail (IsPlaced p) b bs all) (λ k c e. h (suc k) c e))

  still_object : (o : Object) (b : Block) (here : Bool) → b ≡ record (block_of o) { bytes = b.bytes }
      → with_access width a n b here ≡ record (block_of o) { bytes = (with_access width a n b here).bytes }
  still_object o b false e = e
  still_object o b true e = ap (λ (c : Block). record c { bytes = with_number width b.bytes (a - b.base) n }) e

  still_objects : (os : List Object) (bs : List Block) → AreObjects os bs → AreObjects os (map (changed width a n) bs)
  still_objects [] bs h = tt
  still_objects (o ∷ os) [] h = h
  still_objects (o ∷ os) (b ∷ bs) h = (still_object o b (has width a b) h.0, still_objects os bs h.1)

-- ---- the store

pub sound_after : (p : Typed) (bs : List Block) (place a n : ℕ) (width : Width) (z : Bool) → AreSound p bs place → IsCell p.layout bs a width z
    → (z ≡ true → kept_part width n ≡ 0) → (cs : List Block) → stored width a n bs ≡ Some cs → AreSound p cs place
sound_after p bs place a n width z sound cell zeros cs e =
    let all = sound.memory.placed in
    let is = (stored_parts width a n bs cs e).1 in
    subst (λ xs. AreSound p xs place) (sym is) (record {
      apart = apart_changed width a n 0 bs place sound.apart;
      bytes = hold_changed width a n bs sound.bytes;
      memory = record {
        placed = all_placed p width a n bs all spares;
        objects = still_objects p width a n _ bs sound.memory.objects;
        aligned = sound.memory.aligned;
        above = sound.memory.above;
      };
    })
  where
    spares_here : (b : Block) (i at : ℕ) → Spans b i at width → 0 < b.size → length b.bytes ≡ b.size * b.count → a ≡ b.base + i * b.size + at
        → (i + 1 < b.count) ⊎ (z ≡ true) → (a - b.base + width_bytes width ≤ b.size * (b.count - 1)) ⊎ (kept_part width n ≡ 0)
    spares_here b i at x sized whole is h =
        let to = x.to in
        ⊎_elim
        (λ l. let room = element_between b.size i (b.count - 1) (omega arith) in
        let turned = mul_comm b.size (b.count - 1) in inl (omega arith))
        (λ e. inr (zeros e))
        h

    only : (k : ℕ) (b : Block) → slice_get bs k ≡ Some b → has width a b ≡ true → cell.block ≡ b
    only k b f h =
        let x = cell_spans p bs sound.memory.placed a width z cell in
        let in_it = inside width a b h in
        let from = x.from in
        let to = x.to in
        let end = x.end in
        let at = cell.address in
        let low = in_it.0 in
        let high = in_it.1 in
        ⊎_elim
        (λ l. let less = behind 0 bs place cell.number k cell.block b sound.apart cell.there f l in absurd (omega arith))
        (λ h. ⊎_elim
        (λ s. let again : Some cell.block ≡ Some b = sym cell.there ∙ ap (slice_get bs) s ∙ f in cc)
        (λ l. let less = behind 0 bs place k cell.number b cell.block sound.apart f cell.there l in absurd (omega arith))
        h)
        (three cell.number k)

    spares : (k : ℕ) (b : Block) → slice_get bs k ≡ Some b → SparesEnd p width a n b
    spares k b f t h =
        let same = only k b f h in
        let placed = placed_at p bs sound.memory.placed cell.number cell.block cell.there in
        subst (λ (c : Block). (a - c.base + width_bytes width ≤ c.size * (c.count - 1)) ⊎ (kept_part width n ≡ 0)) same
        (spares_here cell.block cell.index cell.offset (cell_spans p bs sound.memory.placed a width z cell) placed.sized placed.whole cell.address
        (cell.ends (subst (λ (c : Block). c.terminated ≡ true) (sym same) t)))
