use Rattle.ckc_blame_sound.proofs.Texts.{runs_checked}
use Rattle.ckc_blame_sound.proofs.runs_laws.checked_texts_run_checked.Goals as goal

pub returns : goal.returns
returns c = λ p input n main checked. runs_checked p input n main checked
