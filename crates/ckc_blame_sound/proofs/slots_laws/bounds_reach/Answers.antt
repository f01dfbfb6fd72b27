use Rattle.ckc_blame_sound.proofs.Reached.{array_reached, terminated_reached, itself_reached}
use Rattle.ckc_blame_sound.proofs.slots_laws.bounds_reach.Goals as goal

pub returns : goal.returns
returns c = record {
  array = λ to access v i low high a range size t e. array_reached to access v i low high a range size t e;
  terminated = λ to access v i low high a range size t h e. terminated_reached to access v i low high a range size t h e;
  itself = itself_reached;
}
