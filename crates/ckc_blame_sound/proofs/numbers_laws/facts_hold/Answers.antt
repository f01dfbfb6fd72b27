use Rattle.ckc_blame_sound.proofs.Statements.{condition_holds}
use Rattle.ckc_blame_sound.proofs.Stepping.{state_holds}
use Rattle.ckc_blame_sound.proofs.numbers_laws.facts_hold.Goals as goal

pub returns : goal.returns
returns c = record {
  condition = λ globals s mode here sure other e store v agrees d typed words all is. condition_holds globals s agrees mode here sure other e store v d typed words all is;
  assignment = λ globals s here there sp k width e l shapes before after agrees d typed reached words all local_is within small is.
      state_holds globals s agrees here there sp k width e d l local_is shapes before after typed reached words all within small is;
}
