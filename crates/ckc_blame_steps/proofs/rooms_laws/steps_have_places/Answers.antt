use Rattle.ckc_blame_steps.proofs.Rooms.{steps_have_places, conditions_have_places}
use Rattle.ckc_blame_steps.proofs.rooms_laws.steps_have_places.Goals as goal

pub returns : goal.returns
returns c = record { step = steps_have_places; condition = conditions_have_places }
