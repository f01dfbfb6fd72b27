use Rattle.ckc_passes.proofs.Once.{program_once}
use Rattle.ckc_passes_dead.specs.Dead.{dead_pass}
use Rattle.ckc_passes_dead.proofs.Faithful.{determined}
use Rattle.ckc_passes_dead.proofs.laws.one_is_left.Goals as goal

pub returns : goal.returns
returns c = λ t a b is too. program_once dead_pass determined t a b is too
