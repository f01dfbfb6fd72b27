use Rattle.ckc_blame_walk.proofs.Frames.{function_frames_same}
use Rattle.ckc_blame_walk.proofs.Texts.{text_same}
use Rattle.ckc_blame_walk.proofs.laws.judging_keeps_frames.Goals as goal

pub returns : goal.returns
returns c = record {
  frame = λ q p makes. (text_same q p makes).frame;
  function = λ q p head body makes there.
      let f = (text_same q p makes).function head body there in
      (f.before, f.there, f.judged);
  locals = function_frames_same;
}
