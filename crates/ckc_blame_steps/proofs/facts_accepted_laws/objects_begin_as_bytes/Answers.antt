use Rattle.ckc_blame_steps.proofs.LaidOut.{programs_laid_out}
use Rattle.ckc_blame_steps.proofs.facts_accepted_laws.objects_begin_as_bytes.Goals as goal

pub returns : goal.returns
returns c = programs_laid_out
