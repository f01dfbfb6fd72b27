use Rattle.ckc_blame_steps.proofs.Accepted.{accepted_known}
use Rattle.ckc_blame_steps.proofs.RunStates.{plans_lie}
use Rattle.ckc_blame_steps.proofs.stores_laws.accepted_stores_lie.Goals as goal

pub returns : goal.returns
returns c = λ text p a. let known = accepted_known text p a in plans_lie p known.0 known.1
