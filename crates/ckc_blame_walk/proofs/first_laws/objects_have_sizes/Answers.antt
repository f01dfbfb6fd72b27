use Rattle.ckc_blame_walk.proofs.Sized.{objects_sized}
use Rattle.ckc_blame_walk.proofs.first_laws.objects_have_sizes.Goals as goal

pub returns : goal.returns
returns c = objects_sized
