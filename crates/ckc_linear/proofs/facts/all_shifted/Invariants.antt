use Rattle.std.proofs.Common.{◌≡◌, ◌++◌, map, take, drop}
use Rattle.ckc_linear.specs.Facts.{shifted}
use Rattle.ckc_linear.proofs.facts.all_shifted.Given as goal

-- the facts so far are shifted
abbrev pub invariant-loop-f : goal.invariant-loop-f
invariant-loop-f l = l.f-items ≡ map (shifted l.fn.by.0 l.fn.by.1) (take l.f-index l.fn.list) ++ drop l.f-index l.fn.list
