use Rattle.ckc_build_values.proofs.Counted.{expr_counted}
use Rattle.ckc_build_values.proofs.laws.literals_are_counted.Goals as goal

pub returns : goal.returns
returns c = record { counted = expr_counted }
