use Rattle.ckc_blame_walk.proofs.Frames.{text_goes}
use Rattle.ckc_blame_walk.proofs.laws.functions_are_judged.Goals as goal

pub returns : goal.returns
returns c = text_goes
