use Rattle.std.proofs.Common.{length}
use Rattle.ckc_build_elaborate.proofs.steps.+add_arguments.Given as goal

abbrev pub decreases-add_arguments : goal.decreases-add_arguments
decreases-add_arguments l = length l.es.now
