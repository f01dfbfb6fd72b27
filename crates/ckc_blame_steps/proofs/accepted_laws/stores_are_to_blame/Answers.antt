use Rattle.ckc_blame_steps.proofs.Accepted.{accepted_store, accepted_sound}
use Rattle.ckc_blame_steps.proofs.accepted_laws.stores_are_to_blame.Goals as goal

pub returns : goal.returns
returns c = record {
  blamed = λ text p a input n. accepted_store text p a input n;
  sound = λ text p input n a. accepted_sound text p a input n;
}
