use Rattle.ckc_blame_sound.proofs.Holding.{side_told}
use Rattle.ckc_blame_sound.proofs.numbers_laws.conditions_tell.Goals as goal

pub returns : goal.returns
returns c = λ globals s e literals at side store v agrees typed words all is zero_is. side_told globals s agrees e literals store v typed words is at side all zero_is
