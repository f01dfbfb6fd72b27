use Rattle.ckc_blame_steps.proofs.Scoped.{texts_are_safe}
use Rattle.ckc_blame_steps.proofs.covers_laws.texts_are_safe.Goals as goal

pub returns : goal.returns
returns c = texts_are_safe
