use Rattle.ckc_base.proofs.Phases.{phase_by_exact}
use Rattle.ckc_typed.specs.Texts.{named_typed}
use Rattle.ckc_typing.proofs.laws.is_exact.Goals as goal

pub returns : goal.returns
returns c = record { exact = phase_by_exact named_typed }
