-- The structures that a judged text declares are those that it is laid out by.
use Rattle.std.proofs.Common.{◌≡◌, ◌∙◌, sym, ap}
use Rattle.ckc_typed.specs.declared.typed.Typed.{Typed}
use Rattle.ckc_typed.specs.Layouts.{structs_of}
use Rattle.ckc_typed.specs.Trees.{Tree}
use Rattle.ckc_blame_sound.specs.JudgedTexts.{IsJudged, globals_in}
use Rattle.ckc_blame_sound.proofs.Bares.{same_tree}
use Rattle.ckc_blame_sound.proofs.Bounded.{layout_kept}

pub structs_told : (p : Typed) → IsJudged p → (globals_in p).structs ≡ p.layout
structs_told p j =
    ap (λ (t : Tree). structs_of t.items) (same_tree j.typed p j.has_bounds) ∙ sym j.has_types.typed.layout ∙ sym (layout_kept j.typed p j.has_bounds)
