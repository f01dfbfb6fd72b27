use Rattle.ckc_blame_steps.proofs.CalledHeads.{callees_called, callees_judged}
use Rattle.ckc_blame_steps.proofs.facts_laws.callees_have_heads.Goals as goal

pub returns : goal.returns
returns c = record { called = callees_called; judged = callees_judged }
