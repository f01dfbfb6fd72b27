use Rattle.ckc_blame_steps.proofs.Entering.{call_keeps}
use Rattle.ckc_blame_steps.proofs.calls_laws.calls_keep_sound.Goals as goal

pub returns : goal.returns
returns c = λ p s h j spot target number es rest next f nested few have is m mode named gives.
    call_keeps p s h j nested few spot target number es rest next m mode f named have gives is
