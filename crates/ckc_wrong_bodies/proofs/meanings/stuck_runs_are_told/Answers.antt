use Rattle.ckc_wrong_bodies.proofs.Ending.{came, told_stuck}
use Rattle.ckc_wrong_bodies.proofs.meanings.stuck_runs_are_told.Goals as goal

pub returns : goal.returns
returns c = λ p limit n given left old new answer within stuck w r.
    told_stuck p given limit n within stuck answer (came p given limit old new left answer w r)
