use Rattle.std.proofs.Common.{◌≡◌, length}
use Rattle.ckc_flow.specs.code.Rounds.{AreSound, unset_in}
use Rattle.ckc_flow.proofs.rows.live.Given as goal

abbrev pub invariant-rounds : goal.invariant-rounds
invariant-rounds l = record {
  sound : AreSound l.f.blocks l.f.regs l.rows.items;
  long : length l.row.items ≡ l.f.regs;
}

abbrev pub decreases-rounds : goal.decreases-rounds
decreases-rounds l = unset_in l.rows.items
