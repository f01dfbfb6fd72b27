use Rattle.ckc_blame_sound.proofs.Functions.{params_numbered, numbered}
use Rattle.ckc_blame_sound.proofs.texts_laws.locals_are_numbered.Goals as goal

pub returns : goal.returns
returns c = record { params = params_numbered; all = numbered }
