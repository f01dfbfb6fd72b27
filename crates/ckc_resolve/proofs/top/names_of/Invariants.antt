use Rattle.std.proofs.Common.{◌≡◌, take, fold}
use Rattle.ckc_resolve.specs.Scoping.{no_names, noted}
use Rattle.ckc_resolve.proofs.top.names_of.Given as goal

abbrev pub invariant-loop-item : goal.invariant-loop-item
invariant-loop-item l = l.names ≡ fold noted no_names (take l.item-index l.item-items)
