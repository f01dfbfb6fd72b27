use Rattle.std.proofs.Common.{◌≡◌, ◌-◌, drop}
use Rattle.std.specs.Option.{option_copied}
use Rattle.ckc_typed.specs.Layouts.{shape_of, shapes_below, tag_count}
use Rattle.ckc_typing_statics.specs.code.Shapes.{member_by}
use Rattle.ckc_typing_statics.proofs.layouts.structs_with.Given as goal

-- the structures by the items after the ones that are still to come
abbrev pub invariant-loop-i : goal.invariant-loop-i
invariant-loop-i l = l.shapes.items ≡ shapes_below (shape_of (member_by (option_copied l.known)) (drop (l.count - l.i) l.items)) (tag_count l.items)
