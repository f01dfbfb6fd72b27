use Rattle.ckc_asm.proofs.Exactness as exactness
use Rattle.ckc_asm.proofs.laws.codes.Goals as goal

pub returns : goal.returns
returns c = exactness.codes
