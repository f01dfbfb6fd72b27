use Rattle.ckc_blame_control.proofs.Called.{front_waits, back_sound}
use Rattle.ckc_blame_control.proofs.laws.calls_return_soundly.Goals as goal

pub returns : goal.returns
returns c = record {
  front = front_waits;
  sound = λ p s t h caller callers w waits is others back keep blocks filled input holds.
      back_sound p s t h caller callers is h.setting w s.frame.function s.frame.entry waits others back keep blocks filled input holds;
}
