use Rattle.ckc_build.proofs.Programs.{meanings_exact}
use Rattle.ckc_build.proofs.meanings.meanings_are_exact.Goals as goal

pub returns : goal.returns
returns c = meanings_exact
