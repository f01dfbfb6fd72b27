-- A target in memory is an integer or a pointer of an element, where only zero is written to the last one of a
-- null-terminated block.
use Rattle.std.proofs.Common.{◌≡◌, ◌⊎◌, ⊎_elim, inl, ℕ, ◌+◌, ◌<◌, ◌^◌, ◌==◌, List, refl, sym, ◌∙◌, ap, subst, arith}
use Rattle.std.specs.Prelude.{Bool, true, false, if◌then◌else◌, is_some, Option, Some, None, Ok, Err}
use Rattle.std.proofs.lemmas.Bool.{eqb-true, ne_eqb}
use Rattle.ckc_base.specs.declared.arithmetic.Width.{Width}
use Rattle.ckc_base.specs.declared.places.Pos.{Pos}
use Rattle.ckc_base.specs.declared.runtime_checks.Check.TheVariants as check
use Rattle.ckc_base.specs.Memory.{kept_part}
use Rattle.ckc_types.specs.declared.types.Structs.{Structs}
use Rattle.ckc_typed.specs.declared.typed.Typed.{Typed}
use Rattle.ckc_source.specs.declared.expr.Access.{Access}
use Rattle.ckc_source.specs.declared.expr.Through.TheVariants as through
use Rattle.ckc_source.specs.declared.outcome.Halt.TheVariants as halt
use Rattle.ckc_source.specs.declared.outcome.Place.{Place}
use Rattle.ckc_source.specs.declared.outcome.Place.TheVariants as place
use Rattle.ckc_source.specs.declared.outcome.Range.{Range}
use Rattle.ckc_source.specs.declared.outcome.Range.TheVariants.{Within}
use Rattle.ckc_source.specs.Blocks.{Block, lies_in}
use Rattle.ckc_source.specs.Eval.{Store, stops, place_in}
use Rattle.ckc_source.specs.Steps.{terminator_at, aims_at, refuses, allowed}
use Rattle.ckc_blame_sound.specs.Cells.{IsCell, AreSound}
use Rattle.ckc_blame_sound.specs.Writes.{IsCellWrite}
use Rattle.ckc_blame_sound.proofs.Apart.{cell_there}
use Rattle.ckc_blame_sound.proofs.Filled.{part_place}

-- what is not the last element need not be tested
cell_tested : (structs : Structs) (bs : List Block) (a : ℕ) (width : Width) (z : Bool) → IsCell structs bs a width false → IsCell structs bs a width z
cell_tested structs bs a width z cell = record {
  number = cell.number;
  block = cell.block;
  there = cell.there;
  index = cell.index;
  below = cell.below;
  offset = cell.offset;
  part = cell.part;
  address = cell.address;
  ends = λ t. ⊎_elim (λ h. inl h) (λ h. absurd (no h)) (cell.ends t);
}
  where
    no : false ≡ true → ⊥
    no h = absurd cc

-- the test for the terminator is made at the end of the range
tested_at : (low high a : ℕ) (at : Pos) → is_some (terminator_at through.Terminated (Within low high) a at) ≡ (a == high)
tested_at low high a at = by (a == high)
  where
    by : (b : Bool) → is_some (if b then Some at else None) ≡ b
    by true = refl
    by false = refl

-- if only zero may be written, only zero is
refused : (zero_alone : Option Pos) (k : ℕ) (to w : Place) → refuses zero_alone k (Ok to) ≡ Ok w → (to ≡ w) × (is_some zero_alone ≡ true → k ≡ 0)
refused None k to w e = (cc, λ h. absurd (no h))
  where
    no : false ≡ true → ⊥
    no h = absurd cc
refused (Some at) k to w e = by (k == 0) refl e
  where
    by : (b : Bool) → (k == 0) ≡ b → (if b then Ok to else stops check.Terminator at) ≡ Ok w → (to ≡ w) × (true ≡ true → k ≡ 0)
    by true f e = (cc, λ h. eqb-true k 0 f)
    by false f e = absurd cc

module _ (p : Typed) (bs : List Block) (next : ℕ) (sound : AreSound p bs next) where
  write_allowed : (a : ℕ) (width : Width) (zero_alone : Option Pos) (n : ℕ) (w : Place) → IsCell p.layout bs a width (is_some zero_alone) → n < 2 ^ 32
      → allowed (place.Memory a width zero_alone) n ≡ Ok w → IsCellWrite p.layout bs w n
  write_allowed a width zero_alone n w cell l e =
      let r = refused zero_alone (kept_part width n) (place.Memory a width zero_alone) w e in
      subst (λ (x : Place). IsCellWrite p.layout bs x n) r.0 (cell, r.1, l)

  pub target_there : (store : Store) → store.blocks ≡ bs → (width : Width) (access : Access) (range : Range) (a : ℕ) (z : Bool)
      → IsCell p.layout bs (a + access.offset) width z
      → aims_at store width access range a ≡ Ok (place.Memory (place_in a access.offset) width (terminator_at access.through range a access.at))
  target_there store e width access range a z cell =
      let is = part_place p bs next sound a access.offset width z cell in
      let there : lies_in width (place_in a access.offset) store.blocks ≡ true =
      ap (λ xs. lies_in width (place_in a access.offset) xs) e ∙ ap (λ x. lies_in width x bs) is ∙ cell_there p bs sound.memory.placed (a + access.offset) width z cell in
      ap (λ b. if b then Ok (place.Memory (place_in a access.offset) width (terminator_at access.through range a access.at)) else Err halt.Stuck) there

  pub ranged_write : (width : Width) (access : Access) (low high a n : ℕ) (w : Place) → IsCell p.layout bs (a + access.offset) width (a == high)
      → (access.through ≡ through.Terminated) ⊎ (a < high) → n < 2 ^ 32
      → allowed (place.Memory (place_in a access.offset) width (terminator_at access.through (Within low high) a access.at)) n ≡ Ok w → IsCellWrite p.layout bs w n
  ranged_write width access low high a n w cell how l e =
      write_allowed (place_in a access.offset) width (terminator_at access.through (Within low high) a access.at) n w
      (subst (λ x. IsCell p.layout bs x width (is_some (terminator_at access.through (Within low high) a access.at))) (sym (part_place p bs next sound a access.offset width (a == high) cell))
      (⊎_elim
      (λ t. subst (λ z. IsCell p.layout bs (a + access.offset) width z)
      (sym (ap (λ x. is_some (terminator_at x (Within low high) a access.at)) t ∙ tested_at low high a access.at)) cell)
      (λ h. cell_tested p.layout bs (a + access.offset) width _ (subst (λ z. IsCell p.layout bs (a + access.offset) width z) (ne_eqb a high (λ s. omega arith)) cell))
      how))
      l e

  pub named_write : (width : Width) (access : Access) (range : Range) (a n : ℕ) (w : Place) → IsCell p.layout bs (a + access.offset) width false → n < 2 ^ 32
      → allowed (place.Memory (place_in a access.offset) width (terminator_at access.through range a access.at)) n ≡ Ok w → IsCellWrite p.layout bs w n
  named_write width access range a n w cell l e =
      write_allowed (place_in a access.offset) width (terminator_at access.through range a access.at) n w
      (subst (λ x. IsCell p.layout bs x width (is_some (terminator_at access.through range a access.at))) (sym (part_place p bs next sound a access.offset width false cell))
      (cell_tested p.layout bs (a + access.offset) width _ cell))
      l e
