use Rattle.ckc_blame_steps.proofs.Layouts.{structs_told}
use Rattle.ckc_blame_steps.proofs.covers_laws.declared_structures_are_laid_out.Goals as goal

pub returns : goal.returns
returns c = structs_told
