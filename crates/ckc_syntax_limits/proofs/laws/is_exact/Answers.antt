use Rattle.ckc_syntax_limits.proofs.Limiting.{limiting_exact}
use Rattle.ckc_syntax_limits.proofs.laws.is_exact.Goals as goal

pub returns : goal.returns
returns g c = limiting_exact
