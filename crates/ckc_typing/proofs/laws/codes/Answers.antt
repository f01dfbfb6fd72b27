use Rattle.ckc_typing.proofs.CodedItems.{codes}
use Rattle.ckc_typing.proofs.laws.codes.Goals as goal

pub returns : goal.returns
returns c = record { codes = codes }
