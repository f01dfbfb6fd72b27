use Rattle.ckc_machine.proofs.Points.{trace_since, since_start}
use Rattle.ckc_machine.proofs.laws.events_since.Goals as goal

pub returns : goal.returns
returns c = record {
  since = λ parts input k j h. trace_since parts input k j h;
  start = λ parts input k. since_start parts input k;
}
