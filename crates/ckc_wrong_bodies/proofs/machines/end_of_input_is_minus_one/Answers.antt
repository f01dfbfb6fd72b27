use Rattle.ckc_wrong_bodies.proofs.Standing.{minus_one}
use Rattle.ckc_wrong_bodies.proofs.machines.end_of_input_is_minus_one.Goals as goal

pub returns : goal.returns
returns c = minus_one
