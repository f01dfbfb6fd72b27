use Rattle.ckc_blame_given.proofs.Filled.{stays_filled}
use Rattle.ckc_blame_given.proofs.targets_laws.memory_stays_filled.Goals as goal

pub returns : goal.returns
returns c = λ s next before after more state done v at there ps ws result seen old locals structs own names little parts sound same kept zero_is known stored planned together lies
    written filled.
    stays_filled s structs own names little parts next before after more state done sound same kept v zero_is at known result seen locals ps ws there old stored planned together lies
    written filled
