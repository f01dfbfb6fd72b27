use Rattle.ckc_blame_steps.proofs.KnownStores.{stores_lie}
use Rattle.ckc_blame_steps.proofs.stores_laws.checked_stores_lie.Goals as goal

pub returns : goal.returns
returns c = λ p s k h mode ws e. stores_lie p k s h mode ws e
