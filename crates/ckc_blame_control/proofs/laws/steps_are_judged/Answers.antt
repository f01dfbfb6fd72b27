use Rattle.ckc_blame_control.proofs.Faced.{faces_assign, faces_bundle, faces_get, faces_put, faces_call, faces_return, faces_check}
use Rattle.ckc_blame_control.proofs.laws.steps_are_judged.Goals as goal

pub returns : goal.returns
returns c = record {
  assignment = λ s store entry work next spot target right rest ready is. faces_assign s store entry work next ready spot target right rest is;
  bundle = λ s store entry work next spot assigns rest ready is. faces_bundle s store entry work next ready spot assigns rest is;
  get = λ s store entry work next spot target rest ready is. faces_get s store entry work next ready spot target rest is;
  put = λ s store entry work next spot target e rest ready is. faces_put s store entry work next ready spot target e rest is;
  call = λ s store entry work next spot target number es rest ready is. faces_call s store entry work next ready spot target number es rest is;
  returns = λ s store entry work next spot e rest ready is. faces_return s store entry work next ready spot e rest is;
  check = λ s store entry work next spot e rest ready is. faces_check s store entry work next ready spot e rest is;
}
