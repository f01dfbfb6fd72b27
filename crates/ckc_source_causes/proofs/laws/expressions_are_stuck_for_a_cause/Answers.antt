use Rattle.ckc_source_causes.proofs.Stuck.{has_cause}
use Rattle.ckc_source_causes.proofs.laws.expressions_are_stuck_for_a_cause.Goals as goal

pub returns : goal.returns
returns c = λ p l s e laid holds w is. has_cause p l s laid holds e w is
