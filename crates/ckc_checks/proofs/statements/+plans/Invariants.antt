use Rattle.std.proofs.Common.{length}
use Rattle.ckc_checks.proofs.statements.+plans.Given as goal

abbrev pub decreases-plans : goal.decreases-plans
decreases-plans l = length l.all.now
