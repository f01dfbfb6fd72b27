use Rattle.ckc_blame_control.proofs.Typed.{statement_typed, condition_typed, has_fresh}
use Rattle.ckc_blame_control.proofs.laws.steps_are_typed.Goals as goal

pub returns : goal.returns
returns c = record {
  step = λ p s f here there step j w i is. statement_typed p s f j w i is.before is.inside;
  condition = λ p s f mode here yes no e w i c. condition_typed p s f mode w i c.before c.inside;
  fresh = λ p s f here there step i is few. has_fresh p s f i here.next is.fresh few;
  tested = λ p s f mode here yes no e i c few. has_fresh p s f i here.next c.fresh few;
}
