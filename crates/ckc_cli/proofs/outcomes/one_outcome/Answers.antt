use Rattle.ckc_cli.proofs.OneOutcome.{one_outcome}
use Rattle.ckc_cli.proofs.outcomes.one_outcome.Goals as goal

pub returns : goal.returns
returns c = one_outcome
