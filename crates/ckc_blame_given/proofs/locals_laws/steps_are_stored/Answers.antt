use Rattle.ckc_blame_given.proofs.Stored.{assignment_stored, bundle_stored}
use Rattle.ckc_blame_given.proofs.locals_laws.steps_are_stored.Goals as goal

pub returns : goal.returns
returns c = record { assignment = assignment_stored; bundle = bundle_stored }
