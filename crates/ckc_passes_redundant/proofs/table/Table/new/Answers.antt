use Rattle.std.proofs.Common.{ap, nat_eq}
use Rattle.std.specs.Prelude.{unwrap_or}
use Rattle.std.specs.Map.{lookup}
use Rattle.ckc_passes_redundant.specs.declared.table.Value.TheVariants.{AtEntry}
use Rattle.ckc_passes_redundant.proofs.Knowing.{knows_nothing}
use Rattle.ckc_passes_redundant.proofs.table.Table.new.Goals as goal

pub returns : goal.returns
returns c = knows_nothing _ _ _ (λ r. ap (λ es. unwrap_or (lookup (nat_eq r) es) (AtEntry r)) c.new-held.ensures.empty) c.new-works.ensures.empty c.new-looks.ensures.empty
