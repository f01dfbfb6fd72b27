use Rattle.ckc_image.proofs.Agreement.{one_bad}
use Rattle.ckc_image.proofs.laws.one_first_bad.Goals as goal

pub returns : goal.returns
returns c = λ bytes k j p q. one_bad bytes k j p q
