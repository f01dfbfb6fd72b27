use Rattle.ckc_blame_steps.proofs.MoreBlocks.{evaluated_later}
use Rattle.ckc_blame_steps.proofs.stores_laws.evaluations_stay.Goals as goal

pub returns : goal.returns
returns c = λ shapes blocks more locals e. evaluated_later shapes locals blocks more e
