use Rattle.ckc_types.proofs.Offsets.{begins, ends}
use Rattle.ckc_types.proofs.laws.offset_is_least.Goals as goal

pub returns-clause-begins : goal.returns-clause-begins
returns-clause-begins c = begins

pub returns-clause-ends : goal.returns-clause-ends
returns-clause-ends c = ends
