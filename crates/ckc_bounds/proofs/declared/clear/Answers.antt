use Rattle.ckc_bounds.proofs.Frames.{set_same}
use Rattle.ckc_bounds.proofs.declared.clear.Goals as goal

pub returns : goal.returns
returns c = set_same c.args.frame.now _ _ _ c.new.ensures
