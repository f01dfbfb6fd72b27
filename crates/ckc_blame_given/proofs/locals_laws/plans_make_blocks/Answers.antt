use Rattle.ckc_blame_given.proofs.Plans.{planned_grown, grown_stays}
use Rattle.ckc_blame_given.proofs.locals_laws.plans_make_blocks.Goals as goal

pub returns : goal.returns
returns c = λ shapes assigns before p h. let g = planned_grown shapes assigns before p h in (g.same, grown_stays shapes before p.state g)
