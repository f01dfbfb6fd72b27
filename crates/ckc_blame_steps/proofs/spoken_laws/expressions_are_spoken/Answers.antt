use Rattle.ckc_blame_steps.proofs.Spoken.{expressions_are_spoken}
use Rattle.ckc_blame_steps.proofs.spoken_laws.expressions_are_spoken.Goals as goal

pub returns : goal.returns
returns c = expressions_are_spoken
