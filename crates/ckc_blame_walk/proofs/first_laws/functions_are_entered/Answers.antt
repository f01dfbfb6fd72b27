use Rattle.ckc_blame_walk.proofs.Entered.{entered_stands}
use Rattle.ckc_blame_walk.proofs.first_laws.functions_are_entered.Goals as goal

pub returns : goal.returns
returns c = entered_stands
