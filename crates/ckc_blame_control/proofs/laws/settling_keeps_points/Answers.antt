use Rattle.ckc_blame_control.proofs.Settled.{ready_ready, ready_begins, ready_turns}
use Rattle.ckc_blame_control.proofs.laws.settling_keeps_points.Goals as goal

pub returns : goal.returns
returns c = record {
  stands = λ p blocks frame s h. record { exits = h.exits; work = h.work; holds = h.holds };
  ready = ready_ready;
  begins = ready_begins;
  turns = ready_turns;
}
