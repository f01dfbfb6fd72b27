use Rattle.std.proofs.Common.{◌≡◌, ◌++◌}
use Rattle.ckc_plain_bodies.specs.code.Statements.{items_plain}
use Rattle.ckc_plain.proofs.top.plain_items.Given as goal

-- what is left gives what the whole gives
abbrev pub invariant-loop-item : goal.invariant-loop-item
invariant-loop-item l = record {
  made : items_plain l.fn.known l.fn.items ≡ l.all ++ items_plain l.fn.known l.item-iterator.rest.items;
  kept : l.known ≡ l.fn.known;
}
