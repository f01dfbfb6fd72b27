use Rattle.ckc_build_elaborate.proofs.Counted.{item_counted}
use Rattle.ckc_build_elaborate.proofs.laws.literals_are_counted.Goals as goal

pub returns : goal.returns
returns c = record { counted = item_counted }
