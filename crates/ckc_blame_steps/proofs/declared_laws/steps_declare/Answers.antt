use Rattle.ckc_blame_steps.proofs.Declaring.{steps_declare}
use Rattle.ckc_blame_steps.proofs.declared_laws.steps_declare.Goals as goal

pub returns : goal.returns
returns c = steps_declare
