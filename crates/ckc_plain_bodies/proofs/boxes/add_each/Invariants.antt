use Rattle.std.proofs.Common.{◌≡◌, ◌++◌}
use Rattle.ckc_plain_bodies.proofs.boxes.add_each.Given as goal

-- what is left gives what the whole gives
abbrev pub invariant-loop-item : goal.invariant-loop-item
invariant-loop-item g l = l.fn.all ++ l.fn.more ≡ l.all ++ l.item-iterator.rest.items
