use Rattle.std.proofs.Common.{ap}
use Rattle.ckc_source.specs.Steps.{at_work}
use Rattle.ckc_interp.specs.code.Views.{core_of}
use Rattle.ckc_interp.proofs.run.Run.next.Goals as goal

pub returns-clause-state : goal.returns-clause-state
returns-clause-state c = ap (at_work (core_of c.args.self.now)) c.in_ok-push_rest.ensures
