use Rattle.ckc_base.proofs.Phases.{phase_by_exact}
use Rattle.ckc_resolve.specs.Phase.{text_named}
use Rattle.ckc_resolve.proofs.laws.is_exact.Goals as goal

pub returns : goal.returns
returns c = record { exact = phase_by_exact text_named }
