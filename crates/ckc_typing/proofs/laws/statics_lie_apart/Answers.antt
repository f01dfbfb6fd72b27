use Rattle.ckc_typing.proofs.Objects.{lie_apart}
use Rattle.ckc_typing.proofs.laws.statics_lie_apart.Goals as goal

pub returns : goal.returns
returns c = record { apart = lie_apart }
