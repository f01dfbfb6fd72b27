use Rattle.ckc_blame_sound.proofs.Flow.{entry_holds}
use Rattle.ckc_blame_sound.proofs.laws.functions_begin.Goals as goal

pub returns : goal.returns
returns c = entry_holds
