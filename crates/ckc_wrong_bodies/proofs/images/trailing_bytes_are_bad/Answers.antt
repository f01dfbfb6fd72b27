use Rattle.ckc_wrong_bodies.proofs.Trailing.{trailing_bad}
use Rattle.ckc_wrong_bodies.proofs.images.trailing_bytes_are_bad.Goals as goal

pub returns : goal.returns
returns c = trailing_bad
