use Rattle.ckc_bounds_known.proofs.Reaching.{chain_found}
use Rattle.ckc_bounds_known.proofs.laws.shown_by_chains.Goals as goal

pub returns : goal.returns
returns c = chain_found
