use Rattle.ckc_bounds.proofs.Frames.{set_is}
use Rattle.ckc_bounds.proofs.declared.set_locals.Goals as goal

pub returns : goal.returns
returns c = set_is c.args.frame.now c.args.locals _
