-- Each checked pointer in the first blocks is null.
use Rattle.std.proofs.Common.{◌≡◌, ℕ, zero, suc, ◌+◌, ◌-◌, ◌*◌, ◌<◌, Bool, true, false, List, [], ◌∷◌, map, refl, sym, ◌∙◌, ap, subst, arith}
use Rattle.std.specs.Prelude.{if◌then◌else◌, slice_get, slice_index, ℤ, ◌+ℤ◌, Option, Some, None, Ok}
use Rattle.std.specs.List.{All, Contains}
use Rattle.std.proofs.lemmas.List.Elements.{All-contains}
use Rattle.ckc_base.specs.declared.arithmetic.Width.{Width}
use Rattle.ckc_base.specs.declared.arithmetic.Width.TheVariants.{Byte, Word}
use Rattle.ckc_typed.specs.declared.typed.StaticObject.{StaticObject}
use Rattle.ckc_typed.specs.declared.typed.Typed.{Typed}
use Rattle.ckc_source.specs.declared.expr.Count.{Count}
use Rattle.ckc_source.specs.declared.expr.Count.TheVariants as counts
use Rattle.ckc_source.specs.declared.program.Shape.{Shape}
use Rattle.ckc_source.specs.Blocks.{Block, end_of, block_of, has, number_at, found, loaded}
use Rattle.ckc_source.specs.LaidOut.{AreApart}
use Rattle.ckc_source.specs.Words.{exact, width_of}
use Rattle.ckc_source.specs.Eval.{given_some, place_in, counted}
use Rattle.ckc_build_elaborate.specs.Lists.{beside}
use Rattle.ckc_build_elaborate.specs.Objects.{object_elaborated}
use Rattle.ckc_blame_sound.specs.Slots.{slots_of, AreFilled}
use Rattle.ckc_blame_sound.specs.Cells.{IsPart, AreSound}
use Rattle.ckc_blame_sound.specs.Limited.{IsCountPart, store_with}
use Rattle.ckc_blame_sound.proofs.Stores.{inside, lies_parts}
use Rattle.ckc_blame_sound.proofs.Parts.{Lies, part_lies}
use Rattle.ckc_blame_sound.proofs.Places.{part_has}
use Rattle.ckc_blame_sound.proofs.Ranges.{contains_at}
use Rattle.ckc_blame_sound.proofs.Apart.{base_from, placed_at, cell_there}
use Rattle.ckc_blame_sound.proofs.Filled.{filled_by, part_cell, part_place}
use Rattle.ckc_blame_walk.specs.Ready.{HavePointerSlots}
use Rattle.ckc_blame_walk.proofs.Entered.{filled_at}
use Rattle.ckc_blame_walk.proofs.Starts.{AreZeros}
use Rattle.ckc_blame_walk.proofs.Placed.{IsLaid, made}

-- ---- zeros

-- each byte is zero
abbrev HoldsZeros : Block → Type 0
HoldsZeros b = (k : ℕ) → slice_index b.bytes k ≡ 0

zero_at : (bytes : List ℕ) → AreZeros bytes → (k : ℕ) → slice_index bytes k ≡ 0
zero_at [] z k = refl
zero_at (b ∷ bytes) z zero = z.0
zero_at (b ∷ bytes) z (suc k) = zero_at bytes z.1 k

zero_number : (width : Width) (b : Block) (i : ℕ) → HoldsZeros b → number_at width b.bytes i ≡ 0
zero_number Byte b i z = z i
zero_number Word b i z =
    let one = z i in
    let two = z (i + 1) in
    let three = z (i + 2) in
    let four = z (i + 3) in
    rw (one, two, three, four) refl

found_zero : (width : Width) (a low : ℕ) (bs : List Block) (place k : ℕ) (b : Block) → AreApart low bs place → slice_get bs k ≡ Some b
    → has width a b ≡ true → HoldsZeros b → found width a bs ≡ Some 0
unfolding found
found_zero width a low [] place k b apart e h z = absurd cc
found_zero width a low (c ∷ bs) place zero b apart e h z =
    let same : b ≡ c = cc in
    subst (λ (x : Block). (if has width a x then Some (number_at width x.bytes (a - x.base)) else found width a bs) ≡ Some 0) same
    (ap (λ t. if t then Some (number_at width b.bytes (a - b.base)) else found width a bs) h ∙ ap Some (zero_number width b (a - b.base) z))
found_zero width a low (c ∷ bs) place (suc k) b apart e h z =
    by (has width a c) refl (found_zero width a (end_of c + 1) bs place k b apart.1 e h z)
  where
    by : (here : Bool) → has width a c ≡ here → found width a bs ≡ Some 0
        → (if here then Some (number_at width c.bytes (a - c.base)) else found width a bs) ≡ Some 0
    by true f later =
        let top = (inside width a c f).1 in
        let begin = (inside width a b h).0 in
        let behind = base_from (end_of c + 1) bs place k b apart.1 e in
        absurd (omega arith)
    by false f later = later

-- ---- loads of zero

module _ (p : Typed) (bs : List Block) (place : ℕ) (sound : AreSound p bs place) (shapes : List Shape) (ls : List ℕ)
    (number i : ℕ) (b : Block) (there : slice_get bs number ≡ Some b) (below : i < b.count) (zeros : HoldsZeros b) where
  has_part : (offset : ℕ) (width : Width) → IsPart p.layout b.element offset width → has width (b.base + i * b.size + offset) b ≡ true
  has_part offset width part =
      let placed = placed_at p bs sound.memory.placed number b there in
      let size = placed.size in
      let lies = subst (λ n. Lies n offset width) (sym size) (part_lies p.layout b.element offset width (subst (λ n. 0 < n) size placed.sized) part) in
      part_has width b offset i placed.whole below lies

  zero_load : (offset : ℕ) (width : Width) → IsPart p.layout b.element offset width → loaded width (place_in (b.base + i * b.size) offset) bs ≡ Some 0
  zero_load offset width part =
      let cell = part_cell p bs number i b offset width there below part in
      let is = part_place p bs place sound (b.base + i * b.size) offset width true cell in
      let a = b.base + i * b.size + offset in
      let lies = lies_parts width a 0 bs (cell_there p bs sound.memory.placed a width true cell) in
      ap (λ x. loaded width x bs) is
      ∙ ap (λ t. if t then found width a bs else None) lies.0
      ∙ found_zero width a 0 bs place number b sound.apart there (has_part offset width part) zeros

  zero_count : (k : Count) → IsCountPart p.layout b.element k → (m : ℤ) × (counted (store_with shapes bs ls) (b.base + i * b.size) k ≡ Ok m)
  zero_count (counts.Fixed n) part = (n, refl)
  zero_count (counts.Member offset form add) part =
      (exact form 0 +ℤ add, ap (λ o. given_some o (λ m. Ok (exact form m +ℤ add))) (zero_load offset (width_of form) part))

-- ---- the blocks of static objects

-- the block of a static object
record IsBlockOf (p : Typed) (os : List StaticObject) (k : ℕ) (b : Block) : Type 0 where
  pub object : StaticObject
  pub flag : Option Bool
  pub there : slice_get os k ≡ Some object
  pub is : b ≡ made p flag object

block_at : (p : Typed) (flags : List Bool) (os : List StaticObject) (k : ℕ) (b : Block)
    → slice_get (map block_of (beside (object_elaborated p.layout) flags os)) k ≡ Some b → IsBlockOf p os k b
block_at p flags [] k b e = absurd cc
block_at p [] (o ∷ os) zero b e = record { object = o; flag = None; there = refl; is = cc }
block_at p (flag ∷ flags) (o ∷ os) zero b e = record { object = o; flag = Some flag; there = refl; is = cc }
block_at p [] (o ∷ os) (suc k) b e = let h = block_at p [] os k b e in record { object = h.object; flag = h.flag; there = h.there; is = h.is }
block_at p (flag ∷ flags) (o ∷ os) (suc k) b e = let h = block_at p flags os k b e in record { object = h.object; flag = h.flag; there = h.there; is = h.is }

pub first_filled : (p : Typed) (flags : List Bool) (shapes : List Shape) (place : ℕ) (ls : List ℕ)
    → AreSound p (map block_of (beside (object_elaborated p.layout) flags p.statics)) place → All (IsLaid p.layout) p.statics → HavePointerSlots p
    → AreFilled p (store_with shapes (map block_of (beside (object_elaborated p.layout) flags p.statics)) ls)
first_filled p flags shapes place ls sound laid slots number i b slot e h has_slot =
    let at = block_at p flags p.statics number b e in
    let o = at.object in
    let is_element : b.element ≡ o.element = ap (λ (c : Block). c.element) at.is in
    let s = slots number o slot at.there (subst (λ t. Contains (slots_of p number t) slot) is_element has_slot) in
    let l = All-contains (IsLaid p.layout) p.statics o laid (contains_at p.statics number o at.there) in
    let first = zero_at o.initial (l.begun.zeros s.other) in
    let zeros : HoldsZeros b =
    subst HoldsZeros (sym at.is) (λ k. filled_at o.initial _ k ∙ first k) in
    let bs = map block_of (beside (object_elaborated p.layout) flags p.statics) in
    let m = zero_count p bs place sound shapes ls number i b e h zeros slot.count (subst (λ t. IsCountPart p.layout t slot.count) (sym is_element) s.part.counted) in
    filled_by (store_with shapes bs ls) slot (b.base + i * b.size) 0 m.0
    (zero_load p bs place sound shapes ls number i b e h zeros slot.offset Word (subst (λ t. IsPart p.layout t slot.offset Word) (sym is_element) s.part.pointer)) m.1 refl
