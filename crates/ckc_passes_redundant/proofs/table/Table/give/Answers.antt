use Rattle.std.proofs.Common.{refl}
use Rattle.ckc_passes_redundant.proofs.Computing.{held_written}
use Rattle.ckc_passes_redundant.proofs.table.Table.give.Goals as goal

pub returns-clause-writes : goal.returns-clause-writes
returns-clause-writes c = record {
  held = λ q. held_written c.args.t q c.args.value _ _ (c.in_ok-insert.ensures.updates.0 q);
  works = refl;
  looks = refl;
}
