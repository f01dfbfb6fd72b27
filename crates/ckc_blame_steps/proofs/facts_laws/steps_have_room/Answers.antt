use Rattle.ckc_blame_steps.proofs.ExpressionRooms.{step_places, step_sides, condition_places}
use Rattle.ckc_blame_steps.proofs.facts_laws.steps_have_room.Goals as goal

pub returns : goal.returns
returns c = record { step = step_places; sides = step_sides; condition = condition_places }
