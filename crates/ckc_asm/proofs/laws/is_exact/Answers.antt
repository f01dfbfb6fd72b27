use Rattle.ckc_asm.proofs.Exactness.{assembling_exact}
use Rattle.ckc_asm.proofs.laws.is_exact.Goals as goal

pub returns : goal.returns
returns c = assembling_exact
