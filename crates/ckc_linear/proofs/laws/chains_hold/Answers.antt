use Rattle.std.proofs.Common.{arith}
use Rattle.std.proofs.lemmas.Int.{ints}
use Rattle.ckc_linear.proofs.Values.{walk_holds}
use Rattle.ckc_linear.proofs.laws.chains_hold.Goals as goal

pub returns : goal.returns
returns c = λ vars facts value x y bound all chain.
    let holds = walk_holds facts value all x y chain.walk chain.leads in
    omega (arith, ints)
