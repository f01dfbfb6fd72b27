use Rattle.ckc_wrong_bodies.proofs.Standing.{same_state, same_answer}
use Rattle.ckc_wrong_bodies.proofs.machines.machines_agree.Goals as goal

pub returns : goal.returns
returns c = record { state = same_state; answer = same_answer }
