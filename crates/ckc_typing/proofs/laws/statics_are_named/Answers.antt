use Rattle.ckc_typing.proofs.Objects.{is_named}
use Rattle.ckc_typing.proofs.laws.statics_are_named.Goals as goal

pub returns : goal.returns
returns c = record { named = is_named }
