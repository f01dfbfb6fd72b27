use Rattle.ckc_blame_sound.proofs.TypedBodies.{expressions_are_typed, conditions_are_typed}
use Rattle.ckc_blame_sound.proofs.texts_laws.expressions_are_typed.Goals as goal

pub returns : goal.returns
returns c = record { whole = expressions_are_typed; maybe = conditions_are_typed }
