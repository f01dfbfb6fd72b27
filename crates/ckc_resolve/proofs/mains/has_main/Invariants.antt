use Rattle.std.proofs.Common.{◌≡◌, drop}
use Rattle.std.specs.List.{list_any}
use Rattle.ckc_resolve.specs.Main.{is_main}
use Rattle.ckc_resolve.proofs.mains.has_main.Given as goal

abbrev pub invariant-loop-item : goal.invariant-loop-item
invariant-loop-item l = list_any is_main l.items ≡ list_any is_main (drop l.item-index l.items)
