use Rattle.ckc_base.proofs.Phases.{phase_by_exact}
use Rattle.ckc_bounds.specs.Texts.{text_judged}
use Rattle.ckc_bounds.proofs.laws.is_exact.Goals as goal

pub returns : goal.returns
returns c = record { exact = phase_by_exact text_judged }
