-- The checked pointers that memory holds are true after writes that spare them, or leave them true.
use Rattle.std.proofs.Common.{◌≡◌, ⊎_elim, inr, ℕ, ◌+◌, ◌*◌, ◌<◌, ◌==◌, List, refl, sym, ◌∙◌, ap, subst}
use Rattle.std.specs.Prelude.{Bool, true, if◌then◌else◌, slice_get, ℤ, pos, negsuc, ◌+ℤ◌, Option, Some, None, Result, Ok, Err, IsOk}
use Rattle.std.specs.List.{Contains}
use Rattle.ckc_base.specs.declared.arithmetic.Width.{Width}
use Rattle.ckc_base.specs.declared.arithmetic.Width.TheVariants.{Word}
use Rattle.ckc_typed.specs.declared.typed.Typed.{Typed}
use Rattle.ckc_source.specs.declared.expr.Count.{Count}
use Rattle.ckc_source.specs.declared.expr.Count.TheVariants as count
use Rattle.ckc_source.specs.declared.expr.Pointee.{Pointee}
use Rattle.ckc_source.specs.declared.outcome.Halt.{Halt}
use Rattle.ckc_source.specs.declared.outcome.Halt.TheVariants.{Stuck}
use Rattle.ckc_source.specs.declared.outcome.Value.{Value}
use Rattle.ckc_source.specs.declared.program.Shape.{Shape}
use Rattle.ckc_source.specs.Blocks.{Block, loaded}
use Rattle.ckc_source.specs.Runs.{is_true}
use Rattle.ckc_source.specs.States.{State}
use Rattle.ckc_source.specs.Steps.{Write}
use Rattle.ckc_source.specs.Words.{exact, width_of, elements_behind}
use Rattle.ckc_source.specs.Eval.{Store, given, given_some, place_in, counted, loads_pointer, reads, reads_within, plain, ranged}
use Rattle.ckc_blame_sound.specs.Slots.{Slot, slots_of, IsFilled, AreFilled}
use Rattle.ckc_blame_sound.specs.Cells.{IsPart, IsCell, AreSound}
use Rattle.ckc_blame_sound.specs.Writes.{AreElsewhere}
use Rattle.ckc_blame_sound.specs.Limited.{IsCountPart, AreSlotParts, IsCountSpared, IsSpared, store_with, AreSparedOrFilled}
use Rattle.ckc_blame_sound.proofs.Objects.{element_at}
use Rattle.ckc_blame_sound.proofs.Apart.{cell_address}
use Rattle.ckc_blame_sound.proofs.Reached.{place_is}
use Rattle.ckc_blame_sound.proofs.Written.{KeepsAll}

-- ---- one slot

-- a pointer is read as before where the same is in memory and the same ranges are true
module _ (shapes : List Shape) (bs cs : List Block) (ls ms : List ℕ)
    (truths : (to : Pointee) (i low high : ℕ) → is_true shapes cs to i low high ≡ is_true shapes bs to i low high) where
  same_within : (to : Pointee) (n : ℕ) (low high : ℤ) → reads_within shapes cs to n low high ≡ reads_within shapes bs to n low high
  same_within to n (pos low) (pos high) = ap (λ t. if t then ranged n low high else Err Stuck) (truths to n low high)
  same_within to n (pos low) (negsuc high) = refl
  same_within to n (negsuc low) high = refl

  pub same_reads : (to : Pointee) (n : ℕ) (low high : ℤ) → reads shapes cs to n low high ≡ reads shapes bs to n low high
  same_reads to n low high = ap (λ r. if n == 0 then plain 0 else r) (same_within to n low high)

  same_loads : (to : Pointee) (count : Count) (begin a : ℕ) → loaded Word a cs ≡ loaded Word a bs
      → counted (store_with shapes cs ms) begin count ≡ counted (store_with shapes bs ls) begin count
      → loads_pointer (store_with shapes cs ms) to count begin a ≡ loads_pointer (store_with shapes bs ls) to count begin a
  same_loads to count begin a e f =
      ap (λ o. given_some o (λ n. given (counted (store_with shapes cs ms) begin count) (λ m. reads shapes cs to n (pos n) (elements_behind n to.size m)))) e
      ∙ by (loaded Word a bs)
    where
      by_count : (n : ℕ) (r : Result ℤ Halt) → given r (λ m. reads shapes cs to n (pos n) (elements_behind n to.size m))
          ≡ given r (λ m. reads shapes bs to n (pos n) (elements_behind n to.size m))
      by_count n (Ok m) = same_reads to n (pos n) (elements_behind n to.size m)
      by_count n (Err h) = refl

      by : (o : Option ℕ) → given_some o (λ n. given (counted (store_with shapes cs ms) begin count) (λ m. reads shapes cs to n (pos n) (elements_behind n to.size m)))
          ≡ given_some o (λ n. given (counted (store_with shapes bs ls) begin count) (λ m. reads shapes bs to n (pos n) (elements_behind n to.size m)))
      by None = refl
      by (Some n) =
          ap (λ r. given r (λ m. reads shapes cs to n (pos n) (elements_behind n to.size m))) f
          ∙ by_count n (counted (store_with shapes bs ls) begin count)

-- a slot that has a pointer whose range is true
pub filled_by : (store : Store) (slot : Slot) (at n : ℕ) (m : ℤ) → loaded Word (place_in at slot.offset) store.blocks ≡ Some n
    → counted store at slot.count ≡ Ok m → IsOk (reads store.shapes store.blocks slot.to n (pos n) (elements_behind n slot.to.size m)) → IsFilled store at slot
filled_by store slot at n m e f h =
    let first = ap (λ o. given_some o (λ n. given (counted store at slot.count) (λ m. reads store.shapes store.blocks slot.to n (pos n) (elements_behind n slot.to.size m)))) e in
    let second = ap (λ r. given r (λ m. reads store.shapes store.blocks slot.to n (pos n) (elements_behind n slot.to.size m))) f in
    subst (λ (r : Result Value Halt). IsOk r) (sym (first ∙ second)) h

-- ---- the slots of an element are objects of it

pub part_cell : (p : Typed) (bs : List Block) (number i : ℕ) (b : Block) (offset : ℕ) (width : Width) → slice_get bs number ≡ Some b → i < b.count
    → IsPart p.layout b.element offset width → IsCell p.layout bs (b.base + i * b.size + offset) width true
part_cell p bs number i b offset width e h part = record {
  number = number;
  block = b;
  there = e;
  index = i;
  below = h;
  offset = offset;
  part = part;
  address = refl;
  ends = λ t. inr refl;
}

-- where a part of an element is read
pub part_place : (p : Typed) (bs : List Block) (next : ℕ) → AreSound p bs next → (a offset : ℕ) (width : Width) (z : Bool)
    → IsCell p.layout bs (a + offset) width z → place_in a offset ≡ a + offset
part_place p bs next sound a offset width z cell = place_is a offset width (cell_address p bs sound.memory.placed (a + offset) width z cell).1

-- ---- after some writes

module _ (p : Typed) (parts : AreSlotParts p) (shapes : List Shape) (ls ms : List ℕ) (next : ℕ) (ws : List Write) (s t : State)
    (sound : AreSound p s.blocks next) (keeps : KeepsAll p next ws s t) where
  spared_load : (number i : ℕ) (b : Block) (offset : ℕ) (width : Width) → slice_get s.blocks number ≡ Some b → i < b.count
      → IsPart p.layout b.element offset width → AreElsewhere (b.base + i * b.size + offset) ws
      → loaded width (place_in (b.base + i * b.size) offset) t.blocks ≡ loaded width (place_in (b.base + i * b.size) offset) s.blocks
  spared_load number i b offset width e h part new =
      let cell = part_cell p s.blocks number i b offset width e h part in
      let is = part_place p s.blocks next sound (b.base + i * b.size) offset width true cell in
      ap (λ x. loaded width x t.blocks) is ∙ keeps.others (b.base + i * b.size + offset) width true cell new ∙ sym (ap (λ x. loaded width x s.blocks) is)

  spared_count : (number i : ℕ) (b : Block) (k : Count) → slice_get s.blocks number ≡ Some b → i < b.count → IsCountPart p.layout b.element k
      → IsCountSpared ws (b.base + i * b.size) k
      → counted (store_with shapes t.blocks ms) (b.base + i * b.size) k ≡ counted (store_with shapes s.blocks ls) (b.base + i * b.size) k
  spared_count number i b (count.Fixed n) e h part new = refl
  spared_count number i b (count.Member offset form add) e h part new =
      ap (λ o. given_some o (λ m. Ok (exact form m +ℤ add))) (spared_load number i b offset (width_of form) e h part new)

  spared_filled : (number i : ℕ) (b : Block) (slot : Slot) → slice_get s.blocks number ≡ Some b → i < b.count → Contains (slots_of p number b.element) slot
      → IsSpared ws (b.base + i * b.size) slot → IsFilled (store_with shapes s.blocks ls) (b.base + i * b.size) slot
      → IsFilled (store_with shapes t.blocks ms) (b.base + i * b.size) slot
  spared_filled number i b slot e h there spared filled =
      let part = parts number b.element slot (element_at p s.blocks sound.memory.objects number b e) there in
      let same = same_loads shapes s.blocks t.blocks ls ms (keeps.truths shapes) slot.to slot.count (b.base + i * b.size) (place_in (b.base + i * b.size) slot.offset)
      (spared_load number i b slot.offset Word e h part.pointer spared.pointer) (spared_count number i b slot.count e h part.counted spared.counted) in
      subst (λ (r : Result Value Halt). IsOk r) (sym same) filled

  pub filled_after : AreFilled p (store_with shapes s.blocks ls) → AreSparedOrFilled p s.blocks ws (store_with shapes t.blocks ms)
      → AreFilled p (store_with shapes t.blocks ms)
  filled_after all some number i b slot e h there =
      let old = keeps.same number b e in
      let c = old.0 in
      let less : i < c.count = subst (λ (x : Block). i < x.count) old.2 h in
      let in_it : Contains (slots_of p number c.element) slot = subst (λ (x : Block). Contains (slots_of p number x.element) slot) old.2 there in
      subst (λ (x : Block). IsFilled (store_with shapes t.blocks ms) (x.base + i * x.size) slot) (sym old.2)
      (⊎_elim
      (λ k. spared_filled number i c slot old.1 less in_it k (all number i c slot old.1 less in_it))
      (λ k. k)
      (some number i c slot old.1 less in_it))
