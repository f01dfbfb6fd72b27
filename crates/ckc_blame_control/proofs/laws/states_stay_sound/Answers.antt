use Rattle.ckc_blame_control.proofs.Kept.{ready_sound, faced_sound}
use Rattle.ckc_blame_control.proofs.laws.states_stay_sound.Goals as goal

pub returns : goal.returns
returns c = record {
  ready = λ p s t h same keep blocks filled input r. ready_sound p s t h same keep blocks filled input r;
  step = λ p s t h step next f same keep blocks filled input is g. faced_sound p s t h same keep blocks filled input step next f is g;
}
