use Rattle.ckc_linear.proofs.Values.{other_holds}
use Rattle.ckc_linear.proofs.laws.others_hold.Goals as goal

pub returns : goal.returns
returns c = λ f x before after others unnamed holds. other_holds x before after others f unnamed holds
