use Rattle.ckc_source.proofs.Blame.{first_kept}
use Rattle.ckc_source.specs.Source.{first_state}
use Rattle.ckc_source.proofs.laws.blame_stays.Goals as goal

pub returns : goal.returns
returns c = λ p input n k at h e. first_kept p n k (first_state p input) at h e
