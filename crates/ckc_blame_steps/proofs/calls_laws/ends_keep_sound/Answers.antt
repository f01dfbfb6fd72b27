use Rattle.ckc_blame_steps.proofs.Known.{results_known}
use Rattle.ckc_blame_steps.proofs.Returned.{end_keeps}
use Rattle.ckc_blame_steps.proofs.calls_laws.ends_keep_sound.Goals as goal

pub returns : goal.returns
returns c = λ p s h j few have lead objects is. end_keeps p s h j few have (results_known p j) lead objects is
