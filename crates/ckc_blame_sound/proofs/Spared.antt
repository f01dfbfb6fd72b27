-- The pointers in memory may be read after assignments to members of one element.
use Rattle.std.proofs.Common.{◌≡◌, ◌⊎◌, ⊎_elim, inl, inr, ℕ, ◌+◌, ◌*◌, ◌<◌, refl, sym, ◌∙◌, ap, subst, List, arith}
use Rattle.std.specs.Prelude.{pos, slice_get, Some, Ok}
use Rattle.std.specs.List.{Contains}
use Rattle.ckc_base.specs.declared.arithmetic.Width.{Width}
use Rattle.ckc_base.specs.declared.arithmetic.Width.TheVariants.{Word}
use Rattle.ckc_bounds.specs.ckc_bounds_points.specs.declared.frame.Bounds.{Bounds}
use Rattle.ckc_bounds.specs.ckc_bounds_points.specs.Flow.{State}
use Rattle.ckc_bounds.specs.ckc_bounds_stores.specs.Stores.{Placed, stored_placed}
use Rattle.ckc_source.specs.declared.expr.Count.{Count}
use Rattle.ckc_source.specs.declared.expr.Count.TheVariants as count
use Rattle.ckc_source.specs.declared.program.Shape.{Shape}
use Rattle.ckc_source.specs.Blocks.{Block}
use Rattle.ckc_source.specs.Eval.{Store}
use Rattle.ckc_source.specs.States as states
use Rattle.ckc_source.specs.Steps.{Write, all_written}
use Rattle.ckc_source.specs.Words as words
use Rattle.ckc_build_values.specs.Kinds.{width_of}
use Rattle.ckc_build_values.specs.Members.{offset_of}
use Rattle.ckc_blame_sound.specs.Settings.{Setting}
use Rattle.ckc_blame_sound.specs.Slots.{Slot, slots_of, IsFilled, AreFilled}
use Rattle.ckc_blame_sound.specs.Valuations.{Valuation, AreFacts}
use Rattle.ckc_blame_sound.specs.Cells.{AreSound, HaveOwnNames, IsPart}
use Rattle.ckc_blame_sound.specs.Limited.{AreSlotParts, AreSparedOrFilled, IsCountPart, IsCountSpared, IsSpared, store_with}
use Rattle.ckc_blame_sound.specs.Writes.{AreCellWrites, AreElsewhere}
use Rattle.ckc_blame_sound.proofs.Apart.{elements_apart, three}
use Rattle.ckc_blame_sound.proofs.Filled.{filled_after}
use Rattle.ckc_blame_sound.proofs.Objects.{element_at}
use Rattle.ckc_blame_sound.proofs.Written.{all_keep, laid}
use Rattle.ckc_blame_sound.specs.Elements.{NameIntegerMembers, IsStructure, AreTargetsWritten, AreWrittenOnce}
use Rattle.ckc_blame_sound.proofs.Targets.{targets_elsewhere}
use Rattle.ckc_blame_sound.proofs.Shapes.{member_there}
use Rattle.ckc_blame_sound.proofs.Placed.{member_part}
use Rattle.ckc_blame_sound.proofs.Stay.{slot_stays}

-- two pairs of numbers are one pair, or not
pub pair_known : (k j i i2 : ℕ) → ((k ≡ j) × (i ≡ i2)) ⊎ ((k ≡ j) × (i ≡ i2) → ⊥)
pair_known k j i i2 =
    ⊎_elim
    (λ less. inr (λ e. let same = e.0 in absurd (omega arith)))
    (λ m. ⊎_elim
    (λ even. ⊎_elim
    (λ less. inr (λ e. let same = e.1 in absurd (omega arith)))
    (λ n. ⊎_elim (λ is. inl (even, is)) (λ less. inr (λ e. let same = e.1 in absurd (omega arith))) n)
    (three i i2))
    (λ less. inr (λ e. let same = e.0 in absurd (omega arith)))
    m)
    (three k j)

module _ (s : Setting) (same_structs : s.frame.structs ≡ s.text.layout) (own : HaveOwnNames s.text.layout) (names : NameIntegerMembers s.text.layout) (parts : AreSlotParts s.text)
    (next : ℕ) (ws : List Write) (before after : states.State) (sound : AreSound s.text before.blocks next) (cells : AreCellWrites s.text.layout before.blocks ws)
    (done : all_written ws before ≡ Ok after) (number i tag : ℕ) (b : Block) (structure : IsStructure before.blocks number i tag b) (shapes : List Shape) (locals : List ℕ)
    (v w : Valuation) (zero_is : v.number 0 ≡ pos 0) (zero_too : w.number 0 ≡ pos 0) (at : State) (known : AreFacts v at.facts) (ps : List Placed)
    (seen : List ℕ) (result : Bounds) (there_is : State) (stored : stored_placed s.frame result seen ps at ≡ Ok there_is)
    (are : AreTargetsWritten s (store_with shapes after.blocks locals) v w at tag (b.base + i * b.size) ps ws) (once : AreWrittenOnce ws) where
  abbrev store : Store
  store = store_with shapes after.blocks locals

  -- ---- another element

  module _ (j i2 : ℕ) (c : Block) (e : slice_get before.blocks j ≡ Some c) (h : i2 < c.count) (other : (number ≡ j) × (i ≡ i2) → ⊥) where
    part_spared : (offset : ℕ) (width : Width) → IsPart s.text.layout c.element offset width → AreElsewhere (c.base + i2 * c.size + offset) ws
    part_spared offset width part =
        targets_elsewhere s store v w at tag (b.base + i * b.size) ps ws are (c.base + i2 * c.size + offset)
        (λ shape t is_target. ⊎_elim
        (λ same. absurd (other same))
        (λ apart. apart)
        (elements_apart s.text before.blocks (laid s.text before.blocks next sound) number j i i2 b c (offset_of s.text.layout tag shape.name) (width_of shape.ctype) offset width
        structure.there e structure.below h
        (member_part s own next before.blocks sound number i tag b structure shape.name (member_there s.text.layout own tag shape t) (width_of shape.ctype) refl) part))

    counted_spared : (many : Count) → IsCountPart s.text.layout c.element many → IsCountSpared ws (c.base + i2 * c.size) many
    counted_spared (count.Fixed n) part = tt
    counted_spared (count.Member offset form add) part = part_spared offset (words.width_of form) part

    other_spared : (slot : Slot) → Contains (slots_of s.text j c.element) slot → IsSpared ws (c.base + i2 * c.size) slot
    other_spared slot there =
        let part = parts j c.element slot (element_at s.text before.blocks sound.memory.objects j c e) there in
        record { pointer = part_spared slot.offset Word part.pointer; counted = counted_spared slot.count part.counted }

  -- ---- each element

  spared_or_filled : AreSparedOrFilled s.text before.blocks ws store
  spared_or_filled j i2 c slot e h there = ⊎_elim one (λ other. inl (other_spared j i2 c e h other slot there)) (pair_known number j i i2)
    where
      one : (number ≡ j) × (i ≡ i2) → IsSpared ws (c.base + i2 * c.size) slot ⊎ IsFilled store (c.base + i2 * c.size) slot
      one same =
          let again : Some b ≡ Some c = sym structure.there ∙ ap (slice_get before.blocks) same.0 ∙ e in
          let is : b ≡ c = cc in
          let at_it : b.base + i * b.size ≡ c.base + i2 * c.size = ap (λ (x : Block). x.base + i * x.size) is ∙ ap (λ k. c.base + k * c.size) same.1 in
          subst (λ a. IsSpared ws a slot ⊎ IsFilled store a slot) at_it
          (slot_stays s same_structs own names parts next ws before after sound cells done number i tag b structure shapes locals v w zero_is zero_too at known ps
          seen result there_is stored are once slot (subst (λ k. Contains (slots_of s.text k b.element) slot) (sym same.0) (subst (λ (x : Block). Contains (slots_of s.text j x.element) slot) (sym is) there)))

  pub members_filled : (old : List ℕ) → AreFilled s.text (store_with shapes before.blocks old) → AreFilled s.text store
  members_filled old filled =
      filled_after s.text parts shapes old locals next ws before after sound (all_keep s.text next ws before after sound cells done) filled spared_or_filled
