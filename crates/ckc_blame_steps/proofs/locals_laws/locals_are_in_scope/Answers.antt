use Rattle.ckc_blame_steps.proofs.Variables.{step_scope, test_scope}
use Rattle.ckc_blame_steps.proofs.locals_laws.locals_are_in_scope.Goals as goal

pub returns : goal.returns
returns c = record { step = step_scope; test = test_scope }
