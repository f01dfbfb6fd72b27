use Rattle.ckc_typed_fit.proofs.BodiesKept.{main_kept}
use Rattle.ckc_typed_fit.proofs.laws.has_main.Goals as goal

pub returns : goal.returns
returns c = record { main = main_kept }
