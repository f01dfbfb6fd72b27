use Rattle.ckc_blame_walk.proofs.Heads.{left_less}
use Rattle.ckc_blame_walk.proofs.Whole.{statement_stays}
use Rattle.ckc_blame_walk.proofs.laws.loops_keep_their_heads.Goals as goal

pub returns : goal.returns
returns c = record { head = left_less; statement = statement_stays }
