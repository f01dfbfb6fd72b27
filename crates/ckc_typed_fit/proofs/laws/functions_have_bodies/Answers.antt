use Rattle.ckc_typed_fit.proofs.BodiesKept.{bodies_kept}
use Rattle.ckc_typed_fit.proofs.laws.functions_have_bodies.Goals as goal

pub returns : goal.returns
returns c = record { bodies = bodies_kept }
