use Rattle.std.proofs.Common.{◌≡◌, ◌++◌}
use Rattle.std.specs.Prelude.{replicate}
use Rattle.ckc_bounds.specs.Frames.{nameless}
use Rattle.ckc_bounds.proofs.bodies.add_nameless.Given as goal

-- so many have been added
abbrev pub invariant-loop-k : goal.invariant-loop-k
invariant-loop-k l = l.all ≡ l.fn.all ++ replicate l._k nameless
