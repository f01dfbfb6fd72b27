use Rattle.std.proofs.Common.{◌≡◌, ◌+◌, drop}
use Rattle.ckc_build_elaborate.specs.Names.{number_of}
use Rattle.ckc_build_elaborate.proofs.names.number_of.Given as goal

abbrev pub invariant-loop-item : goal.invariant-loop-item
invariant-loop-item l = l.before + number_of l.n (drop l.item-index l.items) ≡ number_of l.n l.items
