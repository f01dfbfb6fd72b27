use Rattle.ckc_blame_steps.proofs.Spared.{results_spare, locals_spared}
use Rattle.ckc_blame_steps.proofs.facts_accepted_laws.locals_are_spared.Goals as goal

pub returns : goal.returns
returns c = record { past = results_spare; declared = locals_spared }
