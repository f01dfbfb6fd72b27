-- What the values of the code are seen as.
use Rattle.ckc_bounds_points.specs.Flow.{state}
use Rattle.ckc_bounds_statements.specs.declared.walk.Walk.{Walk}
use Rattle.ckc_bounds_statements.specs.Paths.{Here}

abbrev pub here : Walk → Here
here walk = record { seen = walk.seen; at = state walk.at; next = walk.next; counting = walk.counting }
