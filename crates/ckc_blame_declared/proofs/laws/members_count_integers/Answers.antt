use Rattle.ckc_blame_declared.proofs.Integers.{members_count_integers}
use Rattle.ckc_blame_declared.proofs.laws.members_count_integers.Goals as goal

pub returns : goal.returns
returns c = members_count_integers
