use Rattle.ckc_blame_steps.proofs.Variables.{locals_declared}
use Rattle.ckc_blame_steps.proofs.locals_laws.locals_declare.Goals as goal

pub returns : goal.returns
returns c = locals_declared
