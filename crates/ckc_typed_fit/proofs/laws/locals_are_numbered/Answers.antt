use Rattle.ckc_typed_fit.proofs.LocalsCounted.{locals_count}
use Rattle.ckc_typed_fit.proofs.laws.locals_are_numbered.Goals as goal

pub returns : goal.returns
returns c = record { counted = locals_count }
