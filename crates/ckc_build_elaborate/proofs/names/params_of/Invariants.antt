use Rattle.std.proofs.Common.{◌≡◌, drop}
use Rattle.ckc_build_elaborate.specs.Names.{params_of}
use Rattle.ckc_build_elaborate.proofs.names.params_of.Given as goal

abbrev pub invariant-loop-item : goal.invariant-loop-item
invariant-loop-item l = params_of l.n (drop l.item-index l.items) ≡ params_of l.n l.items
