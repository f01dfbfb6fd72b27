use Rattle.ckc_blame_steps.proofs.DeclaredTypes.{names_fine}
use Rattle.ckc_blame_steps.proofs.facts_accepted_laws.declared_types_are_fine.Goals as goal

pub returns : goal.returns
returns c = names_fine
