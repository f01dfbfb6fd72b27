use Rattle.ckc_blame_steps.proofs.SmallNames.{names_small}
use Rattle.ckc_blame_steps.proofs.facts_accepted_laws.names_of_members_are_small.Goals as goal

pub returns : goal.returns
returns c = names_small
