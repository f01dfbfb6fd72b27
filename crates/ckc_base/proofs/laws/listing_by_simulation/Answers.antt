use Rattle.std.specs.Prelude.{IsTrue}
use Rattle.ckc_base.proofs.Listed.{listing_by_simulation}
use Rattle.ckc_base.proofs.laws.listing_by_simulation.Goals as goal

pub returns : goal.returns
returns g c = λ a b f see may beside related measure most near simulates s t u r n safe k.
    listing_by_simulation a b f see (λ s e. IsTrue (may s e)) (λ s t. IsTrue (beside s t)) (λ s t. IsTrue (related s t))
    measure near most simulates s t (record { to = u; nears = n; related = r }) safe k
