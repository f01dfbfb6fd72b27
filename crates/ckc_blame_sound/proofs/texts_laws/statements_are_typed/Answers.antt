use Rattle.ckc_blame_sound.proofs.TypedBodies.{statements_are_typed}
use Rattle.ckc_blame_sound.proofs.texts_laws.statements_are_typed.Goals as goal

pub returns : goal.returns
returns c = statements_are_typed
