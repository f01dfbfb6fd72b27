use Rattle.ckc_blame_sound.proofs.Joined.{first_known, second_known}
use Rattle.ckc_blame_sound.proofs.laws.branches_join.Goals as goal

pub returns : goal.returns
returns c = record { first = first_known; second = second_known }
