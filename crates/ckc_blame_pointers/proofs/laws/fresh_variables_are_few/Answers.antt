use Rattle.ckc_blame_pointers.proofs.laws.fresh_variables_are_few.Goals as goal
use Rattle.ckc_blame_pointers.proofs.Unwidened.{fresh_few}

pub returns : goal.returns
returns c = λ frame e at low. fresh_few frame e at low
