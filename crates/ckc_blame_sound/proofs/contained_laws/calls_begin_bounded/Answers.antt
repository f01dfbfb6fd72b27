use Rattle.ckc_blame_sound.proofs.Called.{parameters_bounded}
use Rattle.ckc_blame_sound.proofs.contained_laws.calls_begin_bounded.Goals as goal

pub returns : goal.returns
returns c = λ s called store v at es fresh h entry locals text ends parameters counts are known placed arguments new begins owed judged.
    parameters_bounded s called store v at es fresh h entry locals text ends parameters counts are known placed arguments new begins owed judged
