use Rattle.ckc_typed_fit.proofs.MembersDiffer.{members_differ as all_differ}
use Rattle.ckc_typed_fit.proofs.laws.members_differ.Goals as goal

pub returns : goal.returns
returns c = record { differ = all_differ }
