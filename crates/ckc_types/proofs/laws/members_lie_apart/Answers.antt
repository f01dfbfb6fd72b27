use Rattle.ckc_types.proofs.Offsets.{apart, within}
use Rattle.ckc_types.proofs.laws.members_lie_apart.Goals as goal

pub returns-clause-apart : goal.returns-clause-apart
returns-clause-apart c = apart

pub returns-clause-within : goal.returns-clause-within
returns-clause-within c = within
