use Rattle.ckc_syntax.proofs.Emptied.{shorter}
use Rattle.ckc_syntax.proofs.tree.+stmt_drop.Goals as goal

pub drop_stmts-loop-s-preserved : goal.drop_stmts-loop-s-preserved
drop_stmts-loop-s-preserved g t c = shorter _ c.pop.new.self.items c.loop-s.rest.items c.in-Some.s _ c.in-Some.ensures.items c.loop-s.invariant
