use Rattle.ckc_blame_steps.proofs.Rooms.{arguments_have_room, returned_has_room}
use Rattle.ckc_blame_steps.proofs.rooms_laws.arguments_have_room.Goals as goal

pub returns : goal.returns
returns c = record { each = arguments_have_room; returned = returned_has_room }
