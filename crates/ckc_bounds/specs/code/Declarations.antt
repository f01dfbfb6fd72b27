-- The frame of a text, from which that of each function is made.
use Rattle.std.specs.Prelude.{List, [], ◌∷◌, ◌++◌}
use Rattle.ckc_typed.specs.Trees.{NotedDecl}
use Rattle.ckc_bounds_points.specs.declared.frame.Frame.{Frame}
use Rattle.ckc_bounds_points.specs.declared.frame.Local.{Local}
use Rattle.ckc_bounds.specs.declared.locals.Turn.{Turn}
use Rattle.ckc_bounds.specs.declared.locals.Turn.TheVariants as turn
use Rattle.ckc_bounds.specs.Declarations.{nameless, with_local, with_locals}

-- what holds for the whole text, without the locals of a function
abbrev pub text_of : Frame → Frame
text_of frame = with_locals frame []

-- what a walk through declarations makes of some locals, by what it does with each
abbrev pub with_turn : Frame → Turn → List Local → NotedDecl → List Local
with_turn frame turn.Counts ls d = ls ++ nameless ∷ []
with_turn frame (turn.Places bounded) ls d = with_local frame bounded ls d.name d

abbrev pub with_turns : Frame → Turn → List Local → List NotedDecl → List Local
with_turns frame t ls [] = ls
with_turns frame t ls (d ∷ ds) = with_turns frame t (with_turn frame t ls d) ds
