-- Judged texts have what the first state of a program needs.
use Rattle.std.proofs.Common.{◌≡◌, ℕ, true, List}
use Rattle.ckc_base.specs.Lists.{AreBytes}
use Rattle.ckc_syntax_limits.specs.Small.{Small}
use Rattle.ckc_typed.specs.declared.typed.Typed.{Typed}
use Rattle.ckc_typed_welltyped.specs.Productions.{given_tree}
use Rattle.ckc_blame_sound.specs.ckc_bounds.specs.Frames.{first_fresh}
use Rattle.ckc_source.specs.LaidOut.{IsLaidOut}
use Rattle.ckc_source.specs.Source.{first_state}
use Rattle.ckc_build_elaborate.specs.Elaborated.{elaborated}
use Rattle.ckc_blame_sound.specs.Sound.{Sound}
use Rattle.ckc_blame_sound.specs.Limited.{AreSlotParts}
use Rattle.ckc_blame_sound.specs.JudgedTexts.{IsJudged}
use Rattle.ckc_blame_nested.specs.Nested.{AreNested}
use Rattle.ckc_blame_walk.specs.Walks.{leaving}
use Rattle.ckc_blame_walk.proofs.Frames.{text_goes}
use Rattle.ckc_blame_walk.specs.Ready.{HaveSizes, HasObjects, HasFunctions}
use Rattle.ckc_blame_walk.proofs.First.{first_state_sound}
use Rattle.ckc_blame_walk.proofs.Counts.{slot_parts}
use Rattle.ckc_blame_walk.proofs.Mains.{main_bare}
use Rattle.ckc_blame_walk.proofs.NamedStatics.{members_named}
use Rattle.ckc_blame_walk.proofs.Slots.{pointer_slots}
use Rattle.ckc_blame_walk.proofs.Sized.{objects_sized}

pub has_objects : (p : Typed) (j : IsJudged p) → HaveSizes p → AreSlotParts p → IsLaidOut (elaborated p) → HasObjects j.typed p
has_objects p j sizes parts laid = record {
  typed = j.has_types.typed;
  bounded = j.has_bounds;
  sizes = sizes;
  slots = pointer_slots p j parts;
  laid_out = laid;
}

pub has_functions : (p : Typed) (j : IsJudged p) → AreNested j.typed.tree.items → HasFunctions p
has_functions p j nested =
    let main = main_bare p j in
    record {
      codes = λ s f i. record { exits = leaving; fresh = first_fresh i.head i.body; judged = text_goes p s f j nested i };
      defined = main.defined;
      bare = main.bare;
    }

pub judged_sound : (p : Typed) (input : List ℕ) (j : IsJudged p) → given_tree j.named.tree ≡ true → Small j.named.tree → AreNested j.typed.tree.items
    → IsLaidOut (elaborated p) → AreBytes input → Sound p (first_state (elaborated p) input)
judged_sound p input j given small nested laid bytes =
    first_state_sound j.typed p input (has_objects p j (objects_sized p j given small) (slot_parts p j (members_named p j)) laid) (has_functions p j nested) bytes
