use Rattle.ckc_linear.proofs.Values.{shifted_holds}
use Rattle.ckc_linear.proofs.laws.shifted_hold.Goals as goal

pub returns : goal.returns
returns c = λ f x c before after others grown holds. shifted_holds x before after others f c grown holds
