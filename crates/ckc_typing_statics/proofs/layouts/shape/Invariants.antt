use Rattle.std.proofs.Common.{◌≡◌, take, map}
use Rattle.ckc_typing_statics.specs.code.Shapes.{member_by}
use Rattle.std.specs.Option.{option_copied}
use Rattle.ckc_typing_statics.proofs.layouts.shape.Given as goal

-- the members so far
abbrev pub invariant-loop-d : goal.invariant-loop-d
invariant-loop-d l = l.members ≡ map (member_by (option_copied l.known)) (take l.d-index l.ds)
