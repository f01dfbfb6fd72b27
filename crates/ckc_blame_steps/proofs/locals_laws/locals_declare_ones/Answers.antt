use Rattle.ckc_blame_steps.proofs.Ones.{ones_declared}
use Rattle.ckc_blame_steps.proofs.locals_laws.locals_declare_ones.Goals as goal

pub returns : goal.returns
returns c = ones_declared
