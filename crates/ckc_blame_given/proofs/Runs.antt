-- The pointers in memory may be read after an assignment to a member that takes part in no bounds.
use Rattle.std.proofs.Common.{◌≡◌, ◌≢◌, ◌⊎◌, ⊎_elim, inl, inr, ℕ, ◌+◌, ◌*◌, ◌==◌, ◌<◌, refl, sym, ◌∙◌, ap, subst, List, [], ◌∷◌, ◌++◌, arith}
use Rattle.std.specs.Prelude.{Bool, true, false, not, ◌||◌, pos, if◌then◌else◌, slice_get, Option, None, Some, Ok}
use Rattle.std.specs.List.{Contains, flat_map, list_any}
use Rattle.std.proofs.lemmas.Bool.{and_parts, eq-eqb, eqb-true}
use Rattle.std.proofs.lemmas.List.Elements.{All-contains}
use Rattle.ckc_base.specs.declared.arithmetic.Width.{Width}
use Rattle.ckc_base.specs.declared.arithmetic.Width.TheVariants.{Byte, Word}
use Rattle.ckc_base.specs.Memory.{kept_part}
use Rattle.ckc_types.specs.declared.types.CType.{CType, CType-F, out-CType}
use Rattle.ckc_types.specs.declared.types.Kind.{Kind}
use Rattle.ckc_types.specs.declared.types.Kind.TheVariants as kind
use Rattle.ckc_types.specs.declared.types.MemberBounds.{MemberBounds}
use Rattle.ckc_types.specs.declared.types.MemberBounds.TheVariants as written
use Rattle.ckc_types.specs.declared.types.MemberShape.{MemberShape}
use Rattle.ckc_types.specs.declared.types.Structs.{Structs}
use Rattle.ckc_types.specs.Layout.{members_of}
use Rattle.ckc_linear.specs.declared.forms.Base.TheVariants as base
use Rattle.ckc_linear.specs.declared.forms.Form.{Form}
use Rattle.ckc_syntax.specs.declared.tree.Name.TheVariants as name
use Rattle.ckc_typed.specs.Types.{is_char_form, kind_of, kind_in}
use Rattle.ckc_blame_sound.specs.ckc_bounds_points.specs.declared.frame.Bounds.{Bounds}
use Rattle.ckc_blame_sound.specs.ckc_bounds_points.specs.Flow.{State}
use Rattle.ckc_blame_sound.specs.ckc_bounds_points.specs.Forms.{base_form}
use Rattle.ckc_blame_sound.specs.ckc_bounds_views.specs.Views.{view}
use Rattle.ckc_blame_sound.specs.ckc_bounds_stores.specs.Stores.{Placed, stored_placed}
use Rattle.ckc_blame_sound.specs.ckc_bounds_stores.specs.Targets.{local_of, memory_bounds}
use Rattle.ckc_source.specs.declared.expr.Count.{Count}
use Rattle.ckc_source.specs.declared.expr.Count.TheVariants as count
use Rattle.ckc_source.specs.declared.program.Shape.{Shape}
use Rattle.ckc_source.specs.Blocks.{Block, loaded}
use Rattle.ckc_source.specs.Eval.{Store, place_in}
use Rattle.ckc_source.specs.States as states
use Rattle.ckc_source.specs.Steps.{Write, all_written}
use Rattle.ckc_source.specs.Words as words
use Rattle.ckc_build_values.specs.Kinds.{width_of, pointee_of, count_of_kind}
use Rattle.ckc_build_values.specs.Members.{offset_of, count_by, integer_in_member, member_named}
use Rattle.ckc_build_elaborate.specs.Shapes.{is_bare, names}
use Rattle.ckc_blame_sound.specs.Settings.{Setting}
use Rattle.ckc_blame_sound.specs.Slots.{Slot, slot_of_member, slots_in, slots_of, IsFilled, AreFilled}
use Rattle.ckc_blame_sound.specs.Cells.{AreSound, HaveOwnNames, IsPart}
use Rattle.ckc_blame_sound.specs.Limited.{AreSlotParts, AreSparedOrFilled, IsCountPart, IsCountSpared, IsSpared, store_with}
use Rattle.ckc_blame_sound.specs.Writes.{AreCellWrites, AreElsewhere, IsElsewhere}
use Rattle.ckc_blame_sound.proofs.Apart.{elements_apart}
use Rattle.ckc_blame_sound.proofs.Filled.{filled_after, filled_by}
use Rattle.ckc_blame_sound.proofs.Objects.{element_at}
use Rattle.ckc_blame_sound.proofs.Ranges.{contains_at}
use Rattle.ckc_blame_sound.proofs.Written.{all_keep, laid}
use Rattle.ckc_blame_sound.specs.Containment.{IsReadBetween}
use Rattle.ckc_blame_sound.specs.Elements.{AreCounted, IsStructure, NameIntegerMembers}
use Rattle.ckc_blame_sound.specs.GivenValues.{memory_of, IsFrom}
use Rattle.ckc_blame_sound.specs.Memory.{IsMemberGiven}
use Rattle.ckc_blame_sound.specs.Valuations.{Valuation, AreFacts}
use Rattle.ckc_blame_sound.proofs.Faults.{good}
use Rattle.ckc_blame_sound.proofs.Memory.{memory_read, member_counted}
use Rattle.ckc_blame_sound.proofs.Placed.{member_part, members_differ, member_read}
use Rattle.ckc_blame_sound.proofs.Shapes.{HasMember, IsSlotOf, contained_stands, member_there, member_slots, named_there, same_member}
use Rattle.ckc_blame_sound.proofs.Spared.{pair_known}
use Rattle.ckc_blame_sound.proofs.Tests.{right_of}
use Rattle.ckc_blame_given.specs.Planned.{IsRunTarget}

pub cancel : (n a b : ℕ) → n + a ≡ n + b → a ≡ b
cancel n a b e = omega arith

-- a pointer with a number of elements is a word
pointer_wide : (t : CType) (n : Count) → count_of_kind (kind_of t) ≡ Some n → width_of t ≡ Word
pointer_wide t n e = by (out-CType t) e
  where
    by : (f : CType-F CType) → count_of_kind (kind_in f) ≡ Some n → (if is_char_form f then Byte else Word) ≡ Word
    by (CType-F.Pointer q u) e = refl
    by CType-F.Int e = refl
    by CType-F.Unsigned e = refl
    by CType-F.Char e = absurd (cc)
    by CType-F.Void e = refl
    by (CType-F.Struct tag) e = refl

bare_is : (b : MemberBounds) → is_bare b ≡ true → b ≡ written.Nothing
bare_is written.Nothing e = refl
bare_is written.Unknown e = absurd (cc)
bare_is written.NoForm e = absurd (cc)
bare_is (written.Fixed c) e = absurd (cc)
bare_is (written.Named j c) e = absurd (cc)

any_contained : (q : MemberShape → Bool) (ms : List MemberShape) (m : MemberShape) → Contains ms m → q m ≡ true → list_any q ms ≡ true
any_contained q ms m c e =
    let h = contained_stands ms m c in
    subst (λ xs. list_any q xs ≡ true) (sym h.2) (by h.0 h.1)
  where
    by : (front back : List MemberShape) → list_any q (front ++ m ∷ back) ≡ true
    by [] back = ap (λ b. b || list_any q back) e
    by (x ∷ front) back = right_of (q x) (list_any q (front ++ m ∷ back)) (by front back)

module _ (s : Setting) (own : HaveOwnNames s.text.layout) (names_integers : NameIntegerMembers s.text.layout) (parts : AreSlotParts s.text) (next : ℕ) (to : Write) (before after : states.State)
    (sound : AreSound s.text before.blocks next) (cells : AreCellWrites s.text.layout before.blocks (to ∷ [])) (done : all_written (to ∷ []) before ≡ Ok after) (number i : ℕ) (b : Block)
    (there : slice_get before.blocks number ≡ Some b) (below : i < b.count) (shapes : List Shape) (locals : List ℕ)
    (v : Valuation) (zero_is : v.number 0 ≡ pos 0) (at : State) (known : AreFacts v at.facts) (p : Placed) (seen : List ℕ) (result : Bounds) (point : State)
    (stored : stored_placed s.frame result seen (p ∷ []) at ≡ Ok point) (no_local : local_of p.target ≡ None) (alone : (view s.frame p.target).member ≡ None)
    (run : IsRunTarget s p b (b.base + i * b.size) to.0)
    (from : IsFrom s.frame (memory_of s (store_with shapes after.blocks locals) p.target.note.ctype) v p.target.note.ctype p.right p.from at to.1) where
  abbrev begin : ℕ
  begin = b.base + i * b.size

  abbrev layout : Structs
  layout = s.text.layout

  abbrev store : Store
  store = store_with shapes after.blocks locals

  abbrev shape : MemberShape
  shape = run.shape

  abbrev t : CType
  t = run.shape.ctype

  abbrev structure : IsStructure before.blocks number i run.tag b
  structure = record { there = there; below = below; form = run.form }

  abbrev member : HasMember layout run.tag run.shape.name
  member = member_there layout own run.tag run.shape run.there

  part : IsPart layout b.element (offset_of layout run.tag run.shape.name) (width_of t)
  part = member_part s own next before.blocks sound number i run.tag b structure run.shape.name member (width_of t) refl

  free : (is_bare run.shape.bounds ≡ true) × (not (list_any (λ n. names run.shape.name n.bounds) (members_of layout run.tag)) ≡ true)
  free = and_parts (is_bare run.shape.bounds) (not (list_any (λ (n : MemberShape). names run.shape.name n.bounds) (members_of layout run.tag))) run.free

  unnamed : (m : MemberShape) → Contains (members_of layout run.tag) m → names run.shape.name m.bounds ≡ true → ⊥
  unnamed m c e = not_both (list_any (λ (n : MemberShape). names run.shape.name n.bounds) (members_of layout run.tag)) free.1 (any_contained (λ (n : MemberShape). names run.shape.name n.bounds) (members_of layout run.tag) m c e)
    where
      not_both : (a : Bool) → not a ≡ true → a ≡ true → ⊥
      not_both true e f = absurd cc
      not_both false e f = absurd cc

  -- what is read of it after
  read_after : loaded (width_of t) (place_in begin (offset_of layout run.tag run.shape.name)) after.blocks ≡ Some (kept_part (width_of t) to.1)
  unfolding AreElsewhere
  read_after =
      member_read s own next (to ∷ []) before after sound cells done number i run.tag b structure shapes locals run.shape.name member (width_of t) part [] to [] run.zero_alone refl run.goes tt

  abbrev value : Valuation
  value = record v { address = λ a. pos to.1 }

  -- the pointer that it is
  slot_filled : (many : Count) → count_of_kind (kind_of t) ≡ Some many → AreCounted (memory_bounds s.frame p.target) many
      → IsFilled store begin (record { offset = offset_of layout run.tag run.shape.name; to = pointee_of layout t; count = many })
  slot_filled (count.Member offset form add) e c = absurd c
  slot_filled (count.Fixed z) e c =
      let n = to.1 in
      let low = base_form (base.Value 0) in
      let high : Form = record { base = Some (base.Value 0); var = 0; add = z } in
      let given : IsMemberGiven s v value p (view s.frame p.target).member = subst (IsMemberGiven s v value p) (sym alone) tt in
      let placed = (all_keep s.text next (to ∷ []) before after sound cells done).sound.memory.placed in
      let fine = (good s.frame result seen (p ∷ []) at point stored).targets p (contains_at (p ∷ []) 0 p refl) in
      let read = memory_read s store v value at (p ∷ []) p n low high zero_is zero_is refl known placed from (given, tt) (record { begins = refl; ends = refl }) result no_local c fine in
      let counted = member_counted layout 0 t (memory_of s store t) value n zero_is refl (written.Fixed z) (count.Fixed z) z low high refl refl refl
      (subst (λ u. IsReadBetween (memory_of s store u) value n low high) run.same read) in
      filled_by store (record { offset = offset_of layout run.tag run.shape.name; to = pointee_of layout t; count = count.Fixed z }) begin n z
      (subst (λ width. loaded width (place_in begin (offset_of layout run.tag run.shape.name)) after.blocks ≡ Some (kept_part width n)) (pointer_wide t (count.Fixed z) e) read_after) refl counted

  -- ---- another element

  module _ (j i2 : ℕ) (c : Block) (e : slice_get before.blocks j ≡ Some c) (h : i2 < c.count) (other : (number ≡ j) × (i ≡ i2) → ⊥) where
    part_spared : (offset : ℕ) (width : Width) → IsPart layout c.element offset width → AreElsewhere (c.base + i2 * c.size + offset) (to ∷ [])
    unfolding AreElsewhere
    part_spared offset width two =
        let apart = ⊎_elim
        (λ same. absurd (other same))
        (λ a. a)
        (elements_apart s.text before.blocks (laid s.text before.blocks next sound) number j i i2 b c (offset_of layout run.tag run.shape.name) (width_of t) offset width there e below h part two) in
        (subst (IsElsewhere (c.base + i2 * c.size + offset)) (sym run.goes) apart, tt)

    counted_spared : (many : Count) → IsCountPart layout c.element many → IsCountSpared (to ∷ []) (c.base + i2 * c.size) many
    counted_spared (count.Fixed n) two = tt
    counted_spared (count.Member offset form add) two = part_spared offset (words.width_of form) two

  -- ---- another member

  member_spared : (j : ℕ) → HasMember layout run.tag j → run.shape.name ≢ j → AreElsewhere (begin + offset_of layout run.tag j) (to ∷ [])
  unfolding AreElsewhere
  member_spared j h new = (
    subst (IsElsewhere (begin + offset_of layout run.tag j)) (sym run.goes)
        (λ same. members_differ s own next before.blocks sound number i run.tag b structure run.shape.name j member h new (cancel begin (offset_of layout run.tag run.shape.name) (offset_of layout run.tag j) same)),
    tt,
  )

  -- what the bounds of another member read is not the run
  count_spared : (m : MemberShape) → Contains (members_of layout run.tag) m → (bn : MemberBounds) → m.bounds ≡ bn → (many : Count) → count_by layout run.tag m.ctype bn ≡ Some many → IsCountSpared (to ∷ []) begin many
  count_spared m c written.Nothing is many e = by (kind_of m.ctype) e
    where
      by : (o : Option Kind) → count_of_kind o ≡ Some many → IsCountSpared (to ∷ []) begin many
      by (Some kind.One) f = let same : count.Fixed (pos 1) ≡ many = cc in subst (IsCountSpared (to ∷ []) begin) same tt
      by (Some kind.Nt) f = let same : count.Fixed (pos 0) ≡ many = cc in subst (IsCountSpared (to ∷ []) begin) same tt
      by (Some kind.Arr) f = absurd cc
      by (Some kind.Raw) f = absurd cc
      by None f = absurd cc
  count_spared m c written.Unknown is many e = absurd cc
  count_spared m c written.NoForm is many e = absurd cc
  count_spared m c (written.Fixed k) is many e = let same : count.Fixed k ≡ many = cc in subst (IsCountSpared (to ∷ []) begin) same tt
  count_spared m c (written.Named j k) is many e =
      let same : count.Member (offset_of layout run.tag j) (integer_in_member (member_named layout run.tag (name.Member j))) k ≡ many = cc in
      subst (IsCountSpared (to ∷ []) begin) same
      (member_spared j (named_there layout own run.tag j (names_integers run.tag j k m c is)) (λ new. unnamed m c (ap (names run.shape.name) is ∙ eq-eqb j run.shape.name (sym new))))

  -- ---- the slots of the element

  one_slot : (slot : Slot) → Contains (slots_of s.text number b.element) slot → IsSlotOf layout run.tag (members_of layout run.tag) slot
  one_slot slot c =
      All-contains (IsSlotOf layout run.tag (members_of layout run.tag)) (flat_map (slot_of_member layout run.tag) (members_of layout run.tag)) slot (member_slots layout run.tag (members_of layout run.tag))
      (subst (λ f. Contains (slots_in s.text number b.element f) slot) run.form c)

  slot_stays : (slot : Slot) → Contains (slots_of s.text number b.element) slot → IsSpared (to ∷ []) begin slot ⊎ IsFilled store begin slot
  slot_stays slot c = by (one_slot slot c)
    where
      by : IsSlotOf layout run.tag (members_of layout run.tag) slot → IsSpared (to ∷ []) begin slot ⊎ IsFilled store begin slot
      by h = by_name (run.shape.name == h.shape.name) refl
        where
          it : HasMember layout run.tag h.shape.name
          it = member_there layout own run.tag h.shape h.there

          by_name : (a : Bool) → (run.shape.name == h.shape.name) ≡ a → IsSpared (to ∷ []) begin slot ⊎ IsFilled store begin slot
          by_name true e =
              let same : run.shape ≡ h.shape = same_member layout own run.tag member.front (member_there layout own run.tag h.shape h.there).front run.shape h.shape member.stands
              (member_there layout own run.tag h.shape h.there).stands (eqb-true run.shape.name h.shape.name e) in
              let counts : count_of_kind (kind_of t) ≡ Some h.many =
              sym (ap (count_by layout run.tag t) (bare_is run.shape.bounds free.0)) ∙ ap (λ (m : MemberShape). count_by layout run.tag m.ctype m.bounds) same ∙ h.counts in
              let is : slot ≡ record { offset = offset_of layout run.tag run.shape.name; to = pointee_of layout t; count = h.many } =
              h.is ∙ ap (λ (m : MemberShape). record { offset = offset_of layout run.tag m.name; to = pointee_of layout m.ctype; count = h.many }) (sym same) in
              inr (subst (IsFilled store begin) (sym is) (slot_filled h.many counts (run.counts h.many counts)))
          by_name false e =
              let new : run.shape.name ≢ h.shape.name = λ same. (let no : (run.shape.name == h.shape.name) ≡ true = eq-eqb run.shape.name h.shape.name same in absurd cc) in
              inl (subst (IsSpared (to ∷ []) begin) (sym h.is) (record {
                pointer = member_spared h.shape.name it new;
                counted = count_spared h.shape h.there h.shape.bounds refl h.many h.counts;
              }))

  spared_or_filled : AreSparedOrFilled s.text before.blocks (to ∷ []) store
  spared_or_filled j i2 c slot e h in_it = ⊎_elim here (λ other. inl (spared other)) (pair_known number j i i2)
    where
      spared : ((number ≡ j) × (i ≡ i2) → ⊥) → IsSpared (to ∷ []) (c.base + i2 * c.size) slot
      spared other =
          let two = parts j c.element slot (element_at s.text before.blocks sound.memory.objects j c e) in_it in
          record { pointer = part_spared j i2 c e h other slot.offset Word two.pointer; counted = counted_spared j i2 c e h other slot.count two.counted }

      here : (number ≡ j) × (i ≡ i2) → IsSpared (to ∷ []) (c.base + i2 * c.size) slot ⊎ IsFilled store (c.base + i2 * c.size) slot
      here same =
          let again : Some b ≡ Some c = sym there ∙ ap (slice_get before.blocks) same.0 ∙ e in
          let is : b ≡ c = cc in
          let at_it : b.base + i * b.size ≡ c.base + i2 * c.size = ap (λ (x : Block). x.base + i * x.size) is ∙ ap (λ k. c.base + k * c.size) same.1 in
          subst (λ a. IsSpared (to ∷ []) a slot ⊎ IsFilled store a slot) at_it
          (slot_stays slot (subst (λ k. Contains (slots_of s.text k b.element) slot) (sym same.0) (subst (λ (x : Block). Contains (slots_of s.text j x.element) slot) (sym is) in_it)))

  pub run_filled : (old : List ℕ) → AreFilled s.text (store_with shapes before.blocks old) → AreFilled s.text store
  run_filled old filled =
      filled_after s.text parts shapes old locals next (to ∷ []) before after sound (all_keep s.text next (to ∷ []) before after sound cells done) filled spared_or_filled
