use Rattle.ckc_typing.proofs.Room.{have_room}
use Rattle.ckc_typing.proofs.laws.statics_have_room.Goals as goal

pub returns : goal.returns
returns c = record { room = have_room }
