use Rattle.ckc_build.proofs.Chain.{one_tree}
use Rattle.ckc_build.proofs.laws.one_tree.Goals as goal

pub returns : goal.returns
returns c = one_tree
