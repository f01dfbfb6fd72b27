use Rattle.ckc_blame_given.proofs.Aims.{judged_aims}
use Rattle.ckc_blame_given.proofs.Later.{goes_later}
use Rattle.ckc_blame_given.proofs.targets_laws.targets_aim.Goals as goal

pub returns : goal.returns
returns c = record {
  aims = λ m globals s entry here before p fresh literals next store agrees declares free ready little are typed is scalar covered strings h.
      judged_aims m globals s agrees declares store entry next ready here free before p fresh literals little are typed is scalar covered strings h;
  stays = λ s store after more p n w kept same g. goes_later s store after more kept same p n w g;
}
