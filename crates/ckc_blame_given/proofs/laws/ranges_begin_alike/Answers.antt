use Rattle.std.proofs.Common.{[]}
use Rattle.ckc_blame_given.proofs.laws.ranges_begin_alike.Goals as goal
use Rattle.ckc_blame_given.proofs.Narrow.{range_narrowed}

pub returns : goal.returns
returns c = λ frame e first fresh at. range_narrowed frame e first fresh at []
