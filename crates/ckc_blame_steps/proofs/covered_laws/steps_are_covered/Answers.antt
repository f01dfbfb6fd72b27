use Rattle.std.proofs.Common.{◌∙◌, sym}
use Rattle.ckc_blame_steps.proofs.Modes.{step_spot, step_mode}
use Rattle.ckc_blame_steps.proofs.CoveredActs.{act_covered}
use Rattle.ckc_blame_steps.proofs.CoveredCalls.{arguments_there, returned_there}
use Rattle.ckc_blame_steps.proofs.covered_laws.steps_are_covered.Goals as goal

pub returns : goal.returns
returns c = record {
  step = λ m p s f store here there step end j small words safe function i of_mode stores known.
      act_covered m p j small words safe s f function store here there step i
      (step_mode s here there step i ∙ sym (step_spot s here there step i end) ∙ of_mode) known stores;
  arguments = λ m p s f store here there spot target number es j small words safe function i of_mode known.
      arguments_there m p j small words safe s f function store here there spot target number es i of_mode known;
  returned = λ m p s f store here there spot e j small words safe function i of_mode known.
      returned_there m p j small words safe s f function store here there spot e i of_mode known;
}
