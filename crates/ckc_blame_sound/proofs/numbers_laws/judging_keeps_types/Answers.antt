use Rattle.ckc_blame_sound.proofs.Judging.{judged_typed}
use Rattle.ckc_blame_sound.proofs.numbers_laws.judging_keeps_types.Goals as goal

pub returns : goal.returns
returns c = λ globals s e f fresh at typed is. judged_typed globals s e f fresh at typed is
