use Rattle.ckc_blame_steps.proofs.Known.{results_known}
use Rattle.ckc_blame_steps.proofs.Returned.{return_keeps}
use Rattle.ckc_blame_steps.proofs.calls_laws.returns_keep_sound.Goals as goal

pub returns : goal.returns
returns c = λ p s h spot e rest next f j few have lead objects is m mode named gives.
    return_keeps p s h j few have (results_known p j) lead objects spot e rest next m mode f named gives is
