use Rattle.ckc_syntax.proofs.Emptied.{shorter}
use Rattle.ckc_syntax.proofs.tree.+expr_drop.Goals as goal

pub drop_exprs-loop-e-preserved : goal.drop_exprs-loop-e-preserved
drop_exprs-loop-e-preserved g t c = shorter _ c.pop.new.self.items c.loop-e.rest.items c.in-Some.e _ c.in-Some.ensures.items c.loop-e.invariant
