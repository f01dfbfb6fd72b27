use Rattle.std.proofs.Common.{◌-◌, length}
use Rattle.ckc_linear.proofs.Runs.{Parted}
use Rattle.ckc_linear.proofs.facts.without.Given as goal

abbrev pub invariant-runs : goal.invariant-runs
invariant-runs l = Parted l.fn.x l.fn.list l.items.items l.kept l.from

abbrev pub decreases-runs : goal.decreases-runs
decreases-runs l = length l.items.items - l.from
