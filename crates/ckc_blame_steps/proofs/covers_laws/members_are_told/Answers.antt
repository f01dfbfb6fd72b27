use Rattle.ckc_blame_steps.proofs.Members.{members_told}
use Rattle.ckc_blame_steps.proofs.covers_laws.members_are_told.Goals as goal

pub returns : goal.returns
returns c = members_told
