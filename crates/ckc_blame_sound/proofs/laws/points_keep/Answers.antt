use Rattle.ckc_blame_sound.proofs.Kept.{point_kept}
use Rattle.ckc_blame_sound.proofs.laws.points_keep.Goals as goal

pub returns : goal.returns
returns c = point_kept
