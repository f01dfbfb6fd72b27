use Rattle.ckc_blame_declared.proofs.Parameters.{parameters_are_locals}
use Rattle.ckc_blame_declared.proofs.laws.parameters_are_locals.Goals as goal

pub returns : goal.returns
returns c = parameters_are_locals
