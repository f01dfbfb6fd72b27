use Rattle.ckc_blame_steps.proofs.RunStates.{state_good}
use Rattle.ckc_blame_steps.proofs.stores_laws.checked_states_are_sound.Goals as goal

pub returns : goal.returns
returns c = λ p input n k b bytes w. state_good p k input n b bytes w
