use Rattle.ckc_blame_given.proofs.Bundles.{bundle_together}
use Rattle.ckc_blame_given.proofs.targets_laws.bundles_go_together.Goals as goal

pub returns : goal.returns
returns c = λ globals s locals ss at value fresh e typed. bundle_together globals s locals ss at value fresh e typed
