use Rattle.std.proofs.Common.{◌≡◌}
use Rattle.ckc_resolve.specs.Items.{item_in_turn, items_named}
use Rattle.ckc_base.proofs.Sequels.{behind, left}
use Rattle.ckc_resolve.proofs.items.items_in_turn.Given as goal

abbrev pub invariant-loop-item : goal.invariant-loop-item
invariant-loop-item l = items_named l.names l.all l.all l.fn.before ≡ behind l.out (left (item_in_turn l.names l.all) l.all l.item-index l.before)
