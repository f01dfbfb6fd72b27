use Rattle.ckc_blame_sound.proofs.Moved.{form_moved}
use Rattle.ckc_blame_sound.proofs.contained_laws.limits_move.Goals as goal

pub returns : goal.returns
returns c = form_moved
