use Rattle.ckc_passes_dead.proofs.Effects.{effects_stay}
use Rattle.ckc_passes_dead.proofs.laws.effects_stay.Goals as goal

pub returns : goal.returns
returns c = λ t after made. effects_stay t after made
