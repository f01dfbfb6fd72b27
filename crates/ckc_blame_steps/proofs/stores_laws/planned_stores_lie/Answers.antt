use Rattle.std.proofs.Common.{refl, List, ◌∷◌}
use Rattle.std.specs.Prelude.{◌≢◌}
use Rattle.ckc_source.specs.declared.stmt.Spot.{Spot}
use Rattle.ckc_source.specs.Code.{Target, Right, Code, Bundle, Program}
use Rattle.ckc_source.specs.States.{Work, Rest, State, settled}
use Rattle.ckc_blame_steps.proofs.StoresLie.{IsUnstuck, plans_lie}
use Rattle.ckc_blame_steps.proofs.stores_laws.planned_stores_lie.Goals as goal

no_bundle : (p : Program) (s : State) (work : List Work) → ((spot : Spot) (assigns : List (Target × Right)) (rest : Code) (next : List Work) → work ≢ Rest (Bundle spot assigns rest) ∷ next) → IsUnstuck p s work
no_bundle p s (Rest (Bundle spot assigns rest) ∷ next) h = absurd (h spot assigns rest next refl)
no_bundle p s work h = tt

pub returns : goal.returns
returns c = λ p s h ws e. plans_lie p s (settled s.frame.work) ws (no_bundle p s (settled s.frame.work) h) e
