use Rattle.ckc_blame_sound.proofs.Bodies.{bodies_are_typed, declared_known}
use Rattle.ckc_blame_sound.proofs.texts_laws.bodies_are_typed.Goals as goal

pub returns : goal.returns
returns c = record { typed = bodies_are_typed; known = declared_known }
