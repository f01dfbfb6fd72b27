use Rattle.ckc_source.proofs.Keeping.{orderly_at}
use Rattle.ckc_source.proofs.laws.states_are_orderly.Goals as goal

pub returns : goal.returns
returns c = λ p input n l. orderly_at p input n l
