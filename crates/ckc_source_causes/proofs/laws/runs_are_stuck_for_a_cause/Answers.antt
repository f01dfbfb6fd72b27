use Rattle.ckc_source_causes.proofs.Running.{stuck_for_cause}
use Rattle.ckc_source_causes.proofs.laws.runs_are_stuck_for_a_cause.Goals as goal

pub returns : goal.returns
returns c = λ p w input n is. stuck_for_cause p w input n is
