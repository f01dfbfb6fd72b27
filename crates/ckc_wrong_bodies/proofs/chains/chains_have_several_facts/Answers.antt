use Rattle.ckc_wrong_bodies.proofs.Sums.{longer, exact}
use Rattle.ckc_wrong_bodies.proofs.chains.chains_have_several_facts.Goals as goal

pub returns : goal.returns
returns c = record { longer = longer; exact = exact }
