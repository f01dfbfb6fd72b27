use Rattle.std.proofs.Common.{rules}
use Rattle.ckc_bounds_known.proofs.intervals.is_between.Goals as goal

pub returns : goal.returns
returns c = search rules
