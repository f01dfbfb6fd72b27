use Rattle.ckc_blame_control.proofs.Typed.{statement_typed, condition_typed, point_known}
use Rattle.ckc_blame_control.proofs.laws.steps_are_known.Goals as goal

pub returns : goal.returns
returns c = record {
  step = λ p s f here there step j w i few is. (statement_typed p s f j w i is.before is.inside, point_known p s f here j i few is.fresh is.named);
  condition = λ p s f mode here yes no e j w i few c. (condition_typed p s f mode w i c.before c.inside, point_known p s f here j i few c.fresh c.named);
}
