use Rattle.ckc_blame_steps.proofs.Checked.{step_of_mode, condition_of_mode}
use Rattle.ckc_blame_steps.proofs.covers_laws.parts_are_of_mode.Goals as goal

pub returns : goal.returns
returns c = record {
  step = step_of_mode;
  condition = condition_of_mode;
}
