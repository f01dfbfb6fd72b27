use Rattle.ckc_resolve.proofs.MainDeclared.{main_declared}
use Rattle.ckc_resolve.proofs.laws.declares_main.Goals as goal

pub returns : goal.returns
returns c = record { declared = main_declared }
