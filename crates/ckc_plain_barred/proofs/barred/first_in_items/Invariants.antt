use Rattle.std.proofs.Common.{◌≡◌, drop}
use Rattle.ckc_plain_barred.specs.code.First.{first, in_items}
use Rattle.ckc_plain_barred.proofs.barred.first_in_items.Given as goal

-- nothing is refused so far
abbrev pub invariant-loop-item : goal.invariant-loop-item
invariant-loop-item l = record {
  first : first (in_items l.fn.known l.items) ≡ first (in_items l.fn.known (drop l.item-index l.items));
  kept : l.known ≡ l.fn.known;
}
