use Rattle.ckc_blame_sound.proofs.Agree.{facts_agree}
use Rattle.ckc_blame_sound.proofs.contained_laws.valuations_agree.Goals as goal

pub returns : goal.returns
returns c = λ s locals v facts are names all. facts_agree s locals v are facts.list names all
