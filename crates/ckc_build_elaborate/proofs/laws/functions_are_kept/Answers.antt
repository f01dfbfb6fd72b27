use Rattle.ckc_build_elaborate.proofs.Kept.{functions_kept, main_kept}
use Rattle.ckc_build_elaborate.proofs.laws.functions_are_kept.Goals as goal

pub returns : goal.returns
returns c = record { kept = λ t p n e d. functions_kept t p e n d; main = λ t p e. main_kept t p e }
