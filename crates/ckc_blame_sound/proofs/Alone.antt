-- The pointers in memory may be read after an assignment to an element that is no structure.
use Rattle.std.proofs.Common.{◌≡◌, ◌≢◌, ◌⊎◌, ⊎_elim, inl, inr, ℕ, ◌+◌, ◌*◌, ◌<◌, refl, sym, ◌∙◌, ap, subst, List, [], ◌∷◌, arith}
use Rattle.std.specs.Prelude.{true, pos, ◌||◌, slice_get, Option, None, Some, Ok}
use Rattle.std.specs.List.{All, Contains}
use Rattle.std.proofs.lemmas.List.Elements.{All-nil, All-cons, All-contains}
use Rattle.ckc_base.specs.declared.arithmetic.Width.{Width}
use Rattle.ckc_base.specs.declared.arithmetic.Width.TheVariants.{Word}
use Rattle.ckc_base.specs.Memory.{kept_part}
use Rattle.ckc_types.specs.declared.types.CType.{CType, CType-F, out-CType}
use Rattle.ckc_types.specs.declared.types.MemberBounds.TheVariants as written
use Rattle.ckc_types.specs.declared.types.Structs.{Structs}
use Rattle.ckc_linear.specs.declared.forms.Base.TheVariants as base
use Rattle.ckc_linear.specs.declared.forms.Form.{Form}
use Rattle.ckc_syntax.specs.declared.tree.Name.TheVariants as name
use Rattle.ckc_typed.specs.Types.{is_scalar, is_integer_form, is_pointer_form}
use Rattle.ckc_typed.specs.declared.typed.Typed.{Typed}
use Rattle.ckc_bounds.specs.ckc_bounds_points.specs.declared.frame.Bounds.{Bounds}
use Rattle.ckc_bounds.specs.ckc_bounds_points.specs.Forms.{base_form}
use Rattle.ckc_bounds.specs.ckc_bounds_points.specs.Flow.{State}
use Rattle.ckc_bounds.specs.ckc_bounds_views.specs.Views.{view}
use Rattle.ckc_bounds.specs.ckc_bounds_stores.specs.Targets.{memory_bounds}
use Rattle.ckc_bounds.specs.ckc_bounds_stores.specs.Stores.{Placed, stored_placed}
use Rattle.ckc_source.specs.declared.expr.Count.{Count}
use Rattle.ckc_source.specs.declared.expr.Count.TheVariants as count
use Rattle.ckc_source.specs.declared.outcome.Place.{Place}
use Rattle.ckc_source.specs.declared.outcome.Place.TheVariants as place
use Rattle.ckc_source.specs.declared.program.Shape.{Shape}
use Rattle.ckc_source.specs.Blocks.{Block, loaded}
use Rattle.ckc_source.specs.Eval.{Store, place_in}
use Rattle.ckc_source.specs.States as states
use Rattle.ckc_source.specs.Steps.{Write, all_written}
use Rattle.ckc_source.specs.Words as words
use Rattle.ckc_build_values.specs.Kinds.{width_of, pointee_of}
use Rattle.ckc_build_values.specs.Names.{count_of_static}
use Rattle.ckc_blame_sound.specs.Settings.{Setting}
use Rattle.ckc_blame_sound.specs.Slots.{Slot, slot_by, slots_in, slots_of, IsFilled, AreFilled}
use Rattle.ckc_blame_sound.specs.Valuations.{Valuation, AreFacts}
use Rattle.ckc_blame_sound.specs.Cells.{AreSound, IsPart, IsPartIn}
use Rattle.ckc_blame_sound.specs.Limited.{AreSlotParts, AreSparedOrFilled, IsCountPart, IsCountSpared, IsSpared, IsSlotPart, store_with}
use Rattle.ckc_blame_sound.specs.Writes.{AreCellWrites, AreElsewhere, IsElsewhere}
use Rattle.ckc_blame_sound.proofs.Apart.{elements_apart}
use Rattle.ckc_blame_sound.proofs.Filled.{filled_after, filled_by, part_cell, part_place}
use Rattle.ckc_blame_sound.proofs.Objects.{element_at}
use Rattle.ckc_blame_sound.proofs.Ranges.{contains_at, scalar_part}
use Rattle.ckc_blame_sound.proofs.Written.{all_keep, laid, last_write}
use Rattle.ckc_blame_sound.specs.Containment.{IsReadBetween}
use Rattle.ckc_blame_sound.specs.GivenValues.{memory_of}
use Rattle.ckc_blame_sound.specs.Memory.{IsMemberGiven}
use Rattle.ckc_blame_sound.specs.Elements.{AreCounted, IsElementWritten}
use Rattle.ckc_blame_sound.proofs.Faults.{good}
use Rattle.ckc_blame_sound.proofs.Memory.{memory_read, member_counted}
use Rattle.ckc_blame_sound.proofs.Spared.{pair_known}

-- ---- an element that is no structure

-- an integer or a pointer is a part of itself
scalar_itself : (structs : Structs) (t : CType) → is_scalar t ≡ true → IsPart structs t 0 (width_of t)
scalar_itself structs t e = by (out-CType t) e
  where
    by : (f : CType-F CType) → (is_integer_form f || is_pointer_form f) ≡ true → IsPartIn structs t f 0 (width_of t)
    by CType-F.Int e = (refl, refl)
    by CType-F.Unsigned e = (refl, refl)
    by CType-F.Char e = (refl, refl)
    by CType-F.Void e = absurd cc
    by (CType-F.Struct tag) e = absurd cc
    by (CType-F.Pointer k u) e = (refl, refl)

-- its only slot
pub record IsOnlySlot (structs : Structs) (t : CType) (o : Option Count) (slot : Slot) : Type 0 where
  pub many : Count
  pub counts : o ≡ Some many
  pub is : slot ≡ record { offset = 0; to = pointee_of structs t; count = many }

pub only_slot : (structs : Structs) (t : CType) (o : Option Count) (slot : Slot) → Contains (slot_by structs 0 t o) slot → IsOnlySlot structs t o slot
only_slot structs t o slot c = All-contains (IsOnlySlot structs t o) (slot_by structs 0 t o) slot (by o) c
  where
    by : (o : Option Count) → All (IsOnlySlot structs t o) (slot_by structs 0 t o)
    by None = All-nil (IsOnlySlot structs t None)
    by (Some n) =
        All-cons (IsOnlySlot structs t (Some n)) (record { offset = 0; to = pointee_of structs t; count = n }) [] (record { many = n; counts = refl; is = refl })
        (All-nil (IsOnlySlot structs t (Some n)))

scalar_slots : (p : Typed) (number : ℕ) (t : CType) → is_scalar t ≡ true → slots_of p number t ≡ slot_by p.layout 0 t (count_of_static p t (name.Static number))
scalar_slots p number t e = by (out-CType t) e
  where
    by : (f : CType-F CType) → (is_integer_form f || is_pointer_form f) ≡ true → slots_in p number t f ≡ slot_by p.layout 0 t (count_of_static p t (name.Static number))
    by CType-F.Int e = refl
    by CType-F.Unsigned e = refl
    by CType-F.Char e = refl
    by CType-F.Void e = absurd cc
    by (CType-F.Struct tag) e = absurd cc
    by (CType-F.Pointer k u) e = refl

nothing_added : (n : ℕ) → n + 0 ≡ n
nothing_added n = omega arith

module _ (s : Setting) (parts : AreSlotParts s.text) (next : ℕ) (to : Write) (before after : states.State) (sound : AreSound s.text before.blocks next)
    (cells : AreCellWrites s.text.layout before.blocks (to ∷ [])) (done : all_written (to ∷ []) before ≡ Ok after) (number i : ℕ) (b : Block)
    (there : slice_get before.blocks number ≡ Some b) (below : i < b.count) (scalar : is_scalar b.element ≡ true) (shapes : List Shape) (locals : List ℕ)
    (v : Valuation) (zero_is : v.number 0 ≡ pos 0) (at : State) (known : AreFacts v at.facts) (p : Placed) (seen : List ℕ) (result : Bounds) (point : State)
    (stored : stored_placed s.frame result seen (p ∷ []) at ≡ Ok point)
    (one : IsElementWritten s (store_with shapes after.blocks locals) v at number b.element (b.base + i * b.size) p to) where
  abbrev begin : ℕ
  begin = b.base + i * b.size

  abbrev store : Store
  store = store_with shapes after.blocks locals

  itself : IsPart s.text.layout b.element 0 (width_of b.element)
  itself = scalar_itself s.text.layout b.element scalar

  -- what is read of it after
  read_after : loaded (width_of b.element) (place_in begin 0) after.blocks ≡ Some (kept_part (width_of b.element) to.1)
  unfolding AreElsewhere
  read_after =
      let width = width_of b.element in
      let is = part_place s.text before.blocks next sound begin 0 width true (part_cell s.text before.blocks number i b 0 width there below itself) in
      let whole : to ∷ [] ≡ (place.Memory begin width one.zero_alone, to.1) ∷ [] = ap (λ (x : Place). (x, to.1) ∷ []) one.goes in
      ap (λ x. loaded width x after.blocks) (is ∙ nothing_added begin)
      ∙ last_write s.text next [] [] begin to.1 width one.zero_alone before after sound (subst (AreCellWrites s.text.layout before.blocks) whole cells) tt
      (sym (ap (λ us. all_written us before) whole) ∙ done)

  -- the pointer that it is
  module _ (slot : Slot) (h : IsOnlySlot s.text.layout b.element (count_of_static s.text b.element (name.Static number)) slot) (part : IsSlotPart s.text.layout b.element slot) where
    abbrev value : Valuation
    value = record v { address = λ a. pos to.1 }

    slot_filled : (many : Count) → h.many ≡ many → AreCounted (memory_bounds s.frame p.target) many → IsFilled store begin slot
    slot_filled (count.Member offset form add) e c = absurd c
    slot_filled (count.Fixed z) e c =
        let n = to.1 in
        let low = base_form (base.Value 0) in
        let high : Form = record { base = Some (base.Value 0); var = 0; add = z } in
        let from = one.pointer h.many h.counts in
        let given : IsMemberGiven s v value p (view s.frame p.target).member = subst (IsMemberGiven s v value p) (sym one.alone) tt in
        let placed = (all_keep s.text next (to ∷ []) before after sound cells done).sound.memory.placed in
        let fine = (good s.frame result seen (p ∷ []) at point stored).targets p (contains_at (p ∷ []) 0 p refl) in
        let read = memory_read s store v value at (p ∷ []) p n low high zero_is zero_is refl known placed from (given, tt) (record { begins = refl; ends = refl }) result one.local c fine in
        let counted = member_counted s.text.layout 0 b.element (memory_of s store b.element) value n zero_is refl (written.Fixed z) (count.Fixed z) z low high refl refl refl
        (subst (λ t. IsReadBetween (memory_of s store t) value n low high) one.same read) in
        let wide = (scalar_part s.text.layout b.element slot.offset Word scalar part.pointer).1 in
        let is : slot ≡ record { offset = 0; to = pointee_of s.text.layout b.element; count = count.Fixed z } =
        h.is ∙ ap (λ k. record { offset = 0; to = pointee_of s.text.layout b.element; count = k }) e in
        subst (IsFilled store begin) (sym is)
        (filled_by store (record { offset = 0; to = pointee_of s.text.layout b.element; count = count.Fixed z }) begin n z
        (subst (λ width. loaded width (place_in begin 0) after.blocks ≡ Some (kept_part width n)) (sym wide) read_after) refl counted)

    only_filled : IsFilled store begin slot
    only_filled = slot_filled h.many refl (one.counts h.many h.counts)

  -- ---- another element

  module _ (j i2 : ℕ) (c : Block) (e : slice_get before.blocks j ≡ Some c) (h : i2 < c.count) (other : (number ≡ j) × (i ≡ i2) → ⊥) where
    part_spared : (offset : ℕ) (width : Width) → IsPart s.text.layout c.element offset width → AreElsewhere (c.base + i2 * c.size + offset) (to ∷ [])
    unfolding AreElsewhere
    part_spared offset width part =
        let apart = ⊎_elim
        (λ same. absurd (other same))
        (λ a. a)
        (elements_apart s.text before.blocks (laid s.text before.blocks next sound) number j i i2 b c 0 (width_of b.element) offset width there e below h itself part) in
        (subst (IsElsewhere (c.base + i2 * c.size + offset)) (sym one.goes) (subst (λ a. a ≢ c.base + i2 * c.size + offset) (nothing_added begin) apart), tt)

    counted_spared : (many : Count) → IsCountPart s.text.layout c.element many → IsCountSpared (to ∷ []) (c.base + i2 * c.size) many
    counted_spared (count.Fixed n) part = tt
    counted_spared (count.Member offset form add) part = part_spared offset (words.width_of form) part

  spared_or_filled : AreSparedOrFilled s.text before.blocks (to ∷ []) store
  spared_or_filled j i2 c slot e h in_it = ⊎_elim here (λ other. inl (spared other)) (pair_known number j i i2)
    where
      spared : ((number ≡ j) × (i ≡ i2) → ⊥) → IsSpared (to ∷ []) (c.base + i2 * c.size) slot
      spared other =
          let part = parts j c.element slot (element_at s.text before.blocks sound.memory.objects j c e) in_it in
          record { pointer = part_spared j i2 c e h other slot.offset Word part.pointer; counted = counted_spared j i2 c e h other slot.count part.counted }

      here : (number ≡ j) × (i ≡ i2) → IsSpared (to ∷ []) (c.base + i2 * c.size) slot ⊎ IsFilled store (c.base + i2 * c.size) slot
      here same =
          let again : Some b ≡ Some c = sym there ∙ ap (slice_get before.blocks) same.0 ∙ e in
          let is : b ≡ c = cc in
          let at_it : b.base + i * b.size ≡ c.base + i2 * c.size = ap (λ (x : Block). x.base + i * x.size) is ∙ ap (λ k. c.base + k * c.size) same.1 in
          let old : Contains (slots_of s.text number b.element) slot =
          subst (λ k. Contains (slots_of s.text k b.element) slot) (sym same.0) (subst (λ (x : Block). Contains (slots_of s.text j x.element) slot) (sym is) in_it) in
          let only = only_slot s.text.layout b.element (count_of_static s.text b.element (name.Static number)) slot
          (subst (λ xs. Contains xs slot) (scalar_slots s.text number b.element scalar) old) in
          let part = parts number b.element slot (element_at s.text before.blocks sound.memory.objects number b there) old in
          inr (subst (λ a. IsFilled store a slot) at_it (only_filled slot only part))

  pub element_filled : (old : List ℕ) → AreFilled s.text (store_with shapes before.blocks old) → AreFilled s.text store
  element_filled old filled =
      filled_after s.text parts shapes old locals next (to ∷ []) before after sound (all_keep s.text next (to ∷ []) before after sound cells done) filled spared_or_filled
