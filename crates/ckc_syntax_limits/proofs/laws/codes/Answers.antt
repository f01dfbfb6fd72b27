use Rattle.ckc_syntax_limits.proofs.Limiting.{limiting_codes}
use Rattle.ckc_syntax_limits.proofs.laws.codes.Goals as goal

pub returns : goal.returns
returns g c = limiting_codes
