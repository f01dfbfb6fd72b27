use Rattle.ckc_rv.proofs.Details.{machine_narrowed}
use Rattle.ckc_rv.proofs.laws.details_leave_the_machine.Goals as goal

pub returns : goal.returns
returns c = machine_narrowed
