use Rattle.std.proofs.Common.{◌≤◌, ◌-◌, length}
use Rattle.ckc_passes_jumps.specs.code.Ways.{AreRight}
use Rattle.ckc_passes_jumps.specs.code.Reached.{IsSearch}
use Rattle.ckc_passes_jumps.proofs.reached.reached.Given as goal

abbrev pub invariant-order : goal.invariant-order
invariant-order l = record {
  right : AreRight l.blocks l.ways.walks.items l.ways.ends.items;
  within : l.i ≤ length l.order.items;
  search : IsSearch l.blocks l.i l.marks.items l.order.items;
}

abbrev pub decreases-order : goal.decreases-order
decreases-order l = length l.blocks - l.i
