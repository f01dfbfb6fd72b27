use Rattle.ckc_blame_declared.proofs.Own.{counted_members_have_bounds}
use Rattle.ckc_blame_declared.proofs.laws.counted_members_have_bounds.Goals as goal

pub returns : goal.returns
returns c = counted_members_have_bounds
