-- Where the members of an element of memory lie, and what is read of them after writes.
use Rattle.std.proofs.Common.{◌≡◌, ◌≢◌, ℕ, ◌+◌, ◌*◌, ◌<◌, refl, sym, ◌∙◌, ap, subst, List, ◌∷◌, ◌++◌, ℤ, ◌+ℤ◌}
use Rattle.std.specs.Prelude.{true, Option, None, Some, is_some, Ok}
use Rattle.ckc_base.specs.declared.arithmetic.Width.{Width}
use Rattle.ckc_base.specs.declared.places.Pos.{Pos}
use Rattle.ckc_base.specs.Memory.{kept_part}
use Rattle.ckc_typed.specs.Constants.{size_of}
use Rattle.ckc_source.specs.declared.expr.Count.{Count}
use Rattle.ckc_source.specs.declared.expr.Count.TheVariants as count
use Rattle.ckc_source.specs.declared.outcome.Place.{Place}
use Rattle.ckc_source.specs.declared.outcome.Place.TheVariants as place
use Rattle.ckc_source.specs.declared.program.Shape.{Shape}
use Rattle.ckc_source.specs.Blocks.{Block, loaded}
use Rattle.ckc_source.specs.Eval.{given_some, place_in, counted}
use Rattle.ckc_source.specs.States.{State}
use Rattle.ckc_source.specs.Steps.{Write, all_written}
use Rattle.ckc_source.specs.Words as words
use Rattle.ckc_build_values.specs.Kinds.{width_of}
use Rattle.ckc_build_values.specs.Members.{offset_of}
use Rattle.ckc_blame_sound.specs.Settings.{Setting}
use Rattle.ckc_blame_sound.specs.Cells.{AreSound, HaveOwnNames, IsPart, IsPartIn}
use Rattle.ckc_blame_sound.specs.Limited.{IsCountPart, store_with}
use Rattle.ckc_blame_sound.specs.Writes.{AreCellWrites, AreElsewhere}
use Rattle.ckc_blame_sound.proofs.Apart.{offsets_differ, placed_at, cell_there}
use Rattle.ckc_blame_sound.proofs.Filled.{part_cell, part_place}
use Rattle.ckc_blame_sound.proofs.Parts.{HasSize, sized_form}
use Rattle.ckc_blame_sound.proofs.Stores.{load_some}
use Rattle.ckc_blame_sound.proofs.Written.{KeepsAll, all_keep, last_write}
use Rattle.ckc_blame_sound.specs.Elements.{IsStructure}
use Rattle.ckc_blame_sound.proofs.Shapes.{HasMember}

-- ---- one element

module _ (s : Setting) (own : HaveOwnNames s.text.layout) (next : ℕ) (bs : List Block) (sound : AreSound s.text bs next) (number i tag : ℕ) (b : Block)
    (structure : IsStructure bs number i tag b) where
  pub has_size : HasSize s.text.layout tag
  has_size =
      let placed = placed_at s.text bs sound.memory.placed number b structure.there in
      let sized : 0 < size_of s.text.layout b.element = subst (λ n. 0 < n) placed.size placed.sized in
      subst (λ f. 0 < sized_form s.text.layout f) structure.form sized

  pub member_part : (j : ℕ) → (h : HasMember s.text.layout tag j) → (width : Width) → width ≡ width_of h.shape.ctype → IsPart s.text.layout b.element (offset_of s.text.layout tag j) width
  member_part j h width e =
      subst (λ f. IsPartIn s.text.layout b.element f (offset_of s.text.layout tag j) width) (sym structure.form)
      (record { front = h.front; member = h.shape; stands = h.stands; there = ap (offset_of s.text.layout tag) (sym h.named); wide = e })

  pub members_differ : (j k : ℕ) → HasMember s.text.layout tag j → HasMember s.text.layout tag k → j ≢ k → offset_of s.text.layout tag j ≢ offset_of s.text.layout tag k
  members_differ j k g h new e =
      offsets_differ s.text.layout tag has_size g.front h.front g.shape h.shape g.stands h.stands (λ same. new (sym g.named ∙ same ∙ h.named))
      (ap (offset_of s.text.layout tag) g.named ∙ e ∙ sym (ap (offset_of s.text.layout tag) h.named))

  pub part_at : (offset : ℕ) (width : Width) → IsPart s.text.layout b.element offset width → place_in (b.base + i * b.size) offset ≡ b.base + i * b.size + offset
  part_at offset width part =
      part_place s.text bs next sound (b.base + i * b.size) offset width true (part_cell s.text bs number i b offset width structure.there structure.below part)

-- ---- after writes

module _ (s : Setting) (own : HaveOwnNames s.text.layout) (next : ℕ) (ws : List Write) (before after : State) (sound : AreSound s.text before.blocks next)
    (cells : AreCellWrites s.text.layout before.blocks ws) (done : all_written ws before ≡ Ok after) (number i tag : ℕ) (b : Block)
    (structure : IsStructure before.blocks number i tag b) (shapes : List Shape) (locals : List ℕ) where
  pub keeps : KeepsAll s.text next ws before after
  keeps = all_keep s.text next ws before after sound cells done

  -- the number of elements of a pointer is known, whatever it is
  pub count_there : (many : Count) → IsCountPart s.text.layout b.element many → (z : ℤ) × (counted (store_with shapes after.blocks locals) (b.base + i * b.size) many ≡ Ok z)
  count_there (count.Fixed z) part = (z, refl)
  count_there (count.Member offset form add) part =
      let width = words.width_of form in
      let cell = keeps.cells (b.base + i * b.size + offset) width true (part_cell s.text before.blocks number i b offset width structure.there structure.below part) in
      let read = load_some width (b.base + i * b.size + offset) after.blocks (cell_there s.text after.blocks keeps.sound.memory.placed (b.base + i * b.size + offset) width true cell) in
      by (loaded width (b.base + i * b.size + offset) after.blocks) read
      (ap (λ a. given_some (loaded width a after.blocks) (λ m. Ok (words.exact form m +ℤ add))) (part_at s own next before.blocks sound number i tag b structure offset width part))
    where
      by : (o : Option ℕ) → is_some o ≡ true
          → counted (store_with shapes after.blocks locals) (b.base + i * b.size) (count.Member offset form add) ≡ given_some o (λ m. Ok (words.exact form m +ℤ add))
          → (z : ℤ) × (counted (store_with shapes after.blocks locals) (b.base + i * b.size) (count.Member offset form add) ≡ Ok z)
      by None h e = absurd cc
      by (Some m) h e = (words.exact form m +ℤ add, e)

  -- a member has what was written last to it
  pub member_read : (j : ℕ) → HasMember s.text.layout tag j → (width : Width) → IsPart s.text.layout b.element (offset_of s.text.layout tag j) width
      → (front : List Write) (to : Write) (back : List Write) (zero_alone : Option Pos) → ws ≡ front ++ to ∷ back
      → to.0 ≡ place.Memory (b.base + i * b.size + offset_of s.text.layout tag j) width zero_alone
      → AreElsewhere (b.base + i * b.size + offset_of s.text.layout tag j) back
      → loaded width (place_in (b.base + i * b.size) (offset_of s.text.layout tag j)) after.blocks ≡ Some (kept_part width to.1)
  member_read j h width part front to back zero_alone split goes new =
      let a = b.base + i * b.size + offset_of s.text.layout tag j in
      let whole : ws ≡ front ++ (place.Memory a width zero_alone, to.1) ∷ back = split ∙ ap (λ (x : Place). front ++ (x, to.1) ∷ back) goes in
      ap (λ x. loaded width x after.blocks) (part_at s own next before.blocks sound number i tag b structure (offset_of s.text.layout tag j) width part)
      ∙ last_write s.text next front back a to.1 width zero_alone before after sound (subst (AreCellWrites s.text.layout before.blocks) whole cells) new
      (sym (ap (λ us. all_written us before) whole) ∙ done)
