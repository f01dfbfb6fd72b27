use Rattle.ckc_wrong_bodies.proofs.Trailing.{in_time}
use Rattle.ckc_wrong_bodies.proofs.images.images_are_in_time.Goals as goal

pub returns : goal.returns
returns c = in_time
