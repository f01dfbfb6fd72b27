use Rattle.ckc_blame_steps.proofs.Texts.{texts_are_told}
use Rattle.ckc_blame_steps.proofs.covers_laws.texts_are_told.Goals as goal

pub returns : goal.returns
returns c = texts_are_told
