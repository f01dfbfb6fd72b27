use Rattle.ckc_blame_given.proofs.laws.expressions_give.Goals as goal
use Rattle.ckc_blame_given.proofs.Bridge.{judged_gives}

pub returns : goal.returns
returns c = λ m globals s entry here before after fresh literals next store agrees declares ready little are typed is covered strings h.
    judged_gives m globals s agrees declares store entry next ready here before after fresh literals little are typed is covered strings h
