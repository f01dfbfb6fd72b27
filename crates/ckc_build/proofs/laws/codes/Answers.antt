use Rattle.ckc_build.proofs.Refused.{text_codes}
use Rattle.ckc_build.proofs.laws.codes.Goals as goal

pub returns : goal.returns
returns c = text_codes c.codes.ensures.codes
