use Rattle.ckc_source_causes.proofs.Checked.{checked_lies}
use Rattle.ckc_source_causes.proofs.laws.checked_accesses_lie.Goals as goal

pub returns : goal.returns
returns c = λ p l s width access e i v k a laid holds g checked is here at. checked_lies p l s laid holds access e i v k a access.offset width g checked is here at
