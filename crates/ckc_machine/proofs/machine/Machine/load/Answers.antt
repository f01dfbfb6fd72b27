use Rattle.std.proofs.Common.{Some, sym, ap, ◌∙◌}
use Rattle.ckc_base.specs.Traces.{Event, Showing}
use Rattle.ckc_machine.specs.Memories.{memory_of}
use Rattle.ckc_machine.proofs.Points.{start_state, start_input, start_shows}
use Rattle.ckc_machine.proofs.machine.Machine.load.Goals as goal

pub returns-clause-start : goal.returns-clause-start
returns-clause-start c = λ parts input entry code initial. record {
  code = c.in_ok-memory.ensures.code ∙ sym code;
  state = start_state parts input (memory_of c.in_ok-memory.memory) c.args.view.entry (c.in_ok-memory.ensures.flat parts code initial) entry;
  answer = ap (λ (a : Showing Event). a.standing) (start_shows parts input);
  rest = ap Some (sym (start_input parts input));
}
