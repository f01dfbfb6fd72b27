use Rattle.ckc_wrong_bodies.proofs.Ending.{came, one_answer}
use Rattle.ckc_wrong_bodies.proofs.meanings.runs_have_one_answer.Goals as goal

pub returns : goal.returns
returns c = λ p limit given left left' old new old' new' answer other w w' r r'.
    one_answer p given limit answer other (came p given limit old new left answer w r) (came p given limit old' new' left' other w' r')
