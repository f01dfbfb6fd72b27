use Rattle.ckc_blame_steps.proofs.Allocations.{allocate_soundly}
use Rattle.ckc_blame_steps.proofs.allocated_laws.allocations_draw.Goals as goal

pub returns : goal.returns
returns c = allocate_soundly
