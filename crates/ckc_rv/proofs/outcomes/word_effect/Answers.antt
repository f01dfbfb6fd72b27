use Rattle.ckc_rv.proofs.Naming.{outcome_names}
use Rattle.ckc_rv.proofs.outcomes.word_effect.Goals as goal

pub returns-clause-register : goal.returns-clause-register
returns-clause-register c = rw c.outcome_at.ensures (outcome_names c.args.word c.args.pc c.args.regs.now.x)
