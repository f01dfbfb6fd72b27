use Rattle.ckc_typed_fit.proofs.Numbered.{statics_count}
use Rattle.ckc_typed_fit.proofs.laws.statics_are_numbered.Goals as goal

pub returns : goal.returns
returns c = record { counted = statics_count }
