use Rattle.ckc_blame_steps.proofs.Accepted.{accepted_known, accepted_blamed, accepted_never}
use Rattle.ckc_blame_steps.proofs.accepted_laws.accepted_texts_are_blamed.Goals as goal

pub returns : goal.returns
returns c = record { known = accepted_known; blamed = accepted_blamed; checked = accepted_never }
