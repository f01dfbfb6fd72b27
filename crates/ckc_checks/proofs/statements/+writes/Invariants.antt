use Rattle.std.proofs.Common.{length}
use Rattle.ckc_checks.proofs.statements.+writes.Given as goal

abbrev pub decreases-writes : goal.decreases-writes
decreases-writes l = length l.all.now
