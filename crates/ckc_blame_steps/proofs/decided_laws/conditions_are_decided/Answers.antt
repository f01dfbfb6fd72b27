use Rattle.ckc_blame_steps.proofs.Decided.{decided}
use Rattle.ckc_blame_steps.proofs.decided_laws.conditions_are_decided.Goals as goal

pub returns : goal.returns
returns c = λ p s h m e j words few declares tests runs here one other c holds. decided p s h j words few declares tests m here one other e runs c holds
