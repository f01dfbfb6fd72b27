use Rattle.std.proofs.Common.{sym}
use Rattle.ckc_resolve.proofs.Indexing.{behind_some, behind_none}
use Rattle.ckc_resolve.proofs.visible.Visible.has_behind.Goals as goal

pub returns-in-Some : goal.returns-in-Some
returns-in-Some c = sym (behind_some c.args.s.now c.args.base c.args.self.now c.in-Some.place (sym c.in-Some.ensures))

pub returns-in-None : goal.returns-in-None
returns-in-None c = sym (behind_none c.args.s.now c.args.base c.args.self.now (sym c.in-None.ensures))
