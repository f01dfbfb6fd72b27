use Rattle.ckc_blame_steps.proofs.GivenBodies.{texts_given}
use Rattle.ckc_blame_steps.proofs.facts_accepted_laws.bodies_are_given.Goals as goal

pub returns : goal.returns
returns c = texts_given
