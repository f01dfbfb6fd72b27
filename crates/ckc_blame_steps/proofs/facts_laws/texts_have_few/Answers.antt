use Rattle.ckc_blame_steps.proofs.ExpressionRooms.{texts_are_few}
use Rattle.ckc_blame_steps.proofs.facts_laws.texts_have_few.Goals as goal

pub returns : goal.returns
returns c = texts_are_few
