use Rattle.ckc_blame_control.proofs.Called.{entered_sound}
use Rattle.ckc_blame_control.proofs.laws.calls_enter_soundly.Goals as goal

pub returns : goal.returns
returns c = entered_sound
