use Rattle.ckc_blame_steps.proofs.NamedObjects.{locals_scalar}
use Rattle.ckc_blame_steps.proofs.Variables.{local_scalar}
use Rattle.ckc_blame_steps.proofs.locals_laws.locals_are_scalars.Goals as goal

pub returns : goal.returns
returns c = record { locals = local_scalar; named = λ p s f j is k t e. locals_scalar p s f k t j is e }
