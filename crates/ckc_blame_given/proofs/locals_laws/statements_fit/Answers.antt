use Rattle.ckc_blame_given.proofs.Fitting.{step_fits, declared_fits}
use Rattle.ckc_blame_given.proofs.locals_laws.statements_fit.Goals as goal

pub returns : goal.returns
returns c = record {
  assignments = λ p s f before befores afters at point fresh value first judged is inside one sides. step_fits p s f judged is before inside befores afters at fresh one sides point value first;
  declaration = λ p s f d k judged is there named. declared_fits p s f judged is d k there named;
}
