-- The first blocks of the program of a judged text are sound.
use Rattle.std.proofs.Common.{◌≡◌, ◌≤◌, ℕ, ◌+◌, List, [], ◌∷◌, refl, sym, subst, arith}
use Rattle.std.specs.Prelude.{Ok}
use Rattle.std.specs.List.{All, flat_map}
use Rattle.ckc_base.specs.declared.arithmetic.Mode.TheVariants.{Unchecked}
use Rattle.ckc_base.specs.MemoryMap.{data_start}
use Rattle.ckc_types.specs.declared.types.Structs.{Structs}
use Rattle.ckc_typed.specs.declared.typed.StaticObject.{StaticObject}
use Rattle.ckc_typed.specs.declared.typed.Typed.{Typed}
use Rattle.ckc_typed.specs.Statics.{blocks}
use Rattle.ckc_typed.specs.Texts.{globals_of}
use Rattle.ckc_typed_welltyped.specs.Noteless.{without_notes}
use Rattle.ckc_typed_welltyped.specs.Texts.{WellTyped}
use Rattle.ckc_blame_sound.specs.ckc_bounds.specs.Texts.{text_judged}
use Rattle.ckc_source.specs.Blocks.{Block, end_of, first_place}
use Rattle.ckc_source.specs.LaidOut.{AreApart}
use Rattle.ckc_source.proofs.Keeping.{from_zero}
use Rattle.ckc_build_elaborate.specs.Objects.{run_in, objects_elaborated}
use Rattle.ckc_build_elaborate.specs.Shapes.{shapes_elaborated}
use Rattle.ckc_blame_sound.specs.Slots.{AreFilled}
use Rattle.ckc_blame_sound.specs.Cells.{AreSound}
use Rattle.ckc_blame_sound.specs.Limited.{store_with}
use Rattle.ckc_blame_sound.proofs.Bounded.{is_bounded}
use Rattle.ckc_blame_walk.specs.Ready.{first_blocks, next_behind, HasObjects}
use Rattle.ckc_blame_walk.proofs.Starts.{IsBegun, blocks_begun}
use Rattle.ckc_blame_walk.proofs.Placed.{IsLaid, placed_laid, all_placed, are_objects, place_even}
use Rattle.ckc_blame_walk.proofs.Filled.{first_filled}

abbrev AreLaid : Structs → List StaticObject → Type 0
AreLaid structs os = All (IsLaid structs) os

typed_laid : (q : Typed) → WellTyped q → AreLaid q.layout q.statics
typed_laid q w =
    let globals = globals_of (without_notes q.tree).items in
    let begun : All (IsBegun q.layout) (blocks q.layout q.tree.items) =
    subst (λ (s : Structs). All (IsBegun s) (blocks s q.tree.items)) (sym w.layout) (blocks_begun globals Unchecked q.tree.items w.items) in
    subst (AreLaid q.layout) (sym w.statics) (placed_laid q.layout (blocks q.layout q.tree.items) data_start (omega arith) w.ends begun)

statics_laid : (q p : Typed) → WellTyped q → text_judged q ≡ Ok p → AreLaid p.layout p.statics
statics_laid q p w e =
    let same = is_bounded q p e in
    subst (λ (s : Structs). AreLaid s p.statics) (sym same.layout) (subst (AreLaid q.layout) (sym same.statics) (typed_laid q w))

least : (low : ℕ) (bs : List Block) (next : ℕ) → AreApart low bs next → low ≤ next
least low [] next a = a
least low (b ∷ bs) next a = let there = least (end_of b + 1) bs next a.1 in let here = a.0 in omega arith

pub first_sound : (q p : Typed) → HasObjects q p → AreSound p (first_blocks p) (next_behind p)
first_sound q p h = record {
  apart = from_zero first_place (first_blocks p) (next_behind p) h.laid_out.apart;
  bytes = h.laid_out.bytes;
  memory = record {
    placed = all_placed p (flat_map run_in p.tree.items) p.statics (statics_laid q p h.typed h.bounded) h.sizes;
    objects = are_objects (objects_elaborated p);
    aligned = place_even first_place (first_blocks p) refl;
    above = least first_place (first_blocks p) (next_behind p) h.laid_out.apart;
  };
}

pub first_true : (q p : Typed) (locals : List ℕ) → HasObjects q p → AreFilled p (store_with (shapes_elaborated p.layout) (first_blocks p) locals)
first_true q p locals h =
    first_filled p (flat_map run_in p.tree.items) (shapes_elaborated p.layout) (next_behind p) locals (first_sound q p h)
    (statics_laid q p h.typed h.bounded) h.slots
