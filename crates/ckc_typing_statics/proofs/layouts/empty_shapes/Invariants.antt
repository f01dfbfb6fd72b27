use Rattle.std.proofs.Common.{◌≡◌, []}
use Rattle.ckc_typed.specs.Layouts.{shapes_below}
use Rattle.ckc_typing_statics.proofs.layouts.empty_shapes.Given as goal

-- the structures so far
abbrev pub invariant-loop-k : goal.invariant-loop-k
invariant-loop-k l = l.shapes.items ≡ shapes_below (λ k. record { members = [] }) l._k
