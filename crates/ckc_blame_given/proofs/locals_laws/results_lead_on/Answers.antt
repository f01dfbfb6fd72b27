use Rattle.ckc_blame_given.proofs.Points.{alone_after, same_point}
use Rattle.ckc_blame_given.proofs.locals_laws.results_lead_on.Goals as goal

pub returns : goal.returns
returns c = record { assigned = alone_after; nothing = same_point }
