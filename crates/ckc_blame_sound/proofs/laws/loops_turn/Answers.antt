use Rattle.ckc_blame_sound.proofs.Joined.{less_known}
use Rattle.ckc_blame_sound.proofs.laws.loops_turn.Goals as goal

pub returns : goal.returns
returns c = less_known
