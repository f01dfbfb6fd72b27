use Rattle.ckc_blame_pointers.proofs.Whole.{judged_meant}
use Rattle.ckc_blame_pointers.proofs.laws.expressions_come.Goals as goal

pub returns : goal.returns
returns c = λ m globals s entry here before after fresh literals next store agrees declares ready little are typed is covered strings holds.
    judged_meant m globals s agrees declares store entry next ready here before after fresh literals little are typed is covered strings holds
