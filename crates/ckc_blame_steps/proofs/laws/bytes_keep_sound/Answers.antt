use Rattle.ckc_blame_steps.proofs.ByteSteps.{every_get}
use Rattle.ckc_blame_steps.proofs.PutSteps.{every_put}
use Rattle.ckc_blame_steps.proofs.laws.bytes_keep_sound.Goals as goal

pub returns : goal.returns
returns c = record { get = every_get; put = every_put }
