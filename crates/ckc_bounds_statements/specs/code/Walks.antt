-- What the code knows at a point, as the definition has it.
use Rattle.std.specs.Prelude.{Option, None, Some}
use Rattle.ckc_bounds_points.specs.declared.point.Point.{Point}
use Rattle.ckc_bounds_points.specs.Flow.{State, state}
use Rattle.ckc_bounds_statements.specs.declared.loops.Branch as branches
use Rattle.ckc_bounds_statements.specs.declared.loops.Start as starts
use Rattle.ckc_bounds_statements.specs.Paths.{Branch, Start}

abbrev pub maybe_state : Option Point → Option State
maybe_state None = None
maybe_state (Some at) = Some (state at)

abbrev pub branch : branches.Branch → Branch
branch b = record { condition = b.condition; other = state b.other }

abbrev pub start : starts.Start → Start
start s = record { condition = s.condition; other = state s.other; step = maybe_state s.step }
