-- What a checked step of a known text is going to write to memory lies in a block.
use Rattle.std.proofs.Common.{◌≡◌, refl, List, ◌∷◌}
use Rattle.std.specs.Prelude.{Ok}
use Rattle.ckc_base.specs.declared.arithmetic.Mode.TheVariants.{Checked}
use Rattle.ckc_typed.specs.declared.typed.Typed.{Typed}
use Rattle.ckc_source.specs.Code.{Bundle}
use Rattle.ckc_source.specs.States.{Work, Rest, State, settled}
use Rattle.ckc_source.specs.Steps.{Write, spot_of}
use Rattle.ckc_build_elaborate.specs.Elaborated.{elaborated}
use Rattle.ckc_checks_follow.specs.Stores.{plans}
use Rattle.ckc_blame_sound.specs.Sound.{Sound}
use Rattle.ckc_blame_steps.specs.Known.{IsKnown}
use Rattle.ckc_blame_steps.specs.Stores.{LieThere}
use Rattle.ckc_blame_steps.proofs.Allocations.{allocate_soundly}
use Rattle.ckc_blame_steps.proofs.Bundles.{every_bundle_unstuck}
use Rattle.ckc_blame_steps.proofs.StoresLie.{IsUnstuck, plans_lie}

module _ (p : Typed) (k : IsKnown p) (s : State) (h : Sound p s) (mode : (spot_of s).mode ≡ Checked) where
  unstuck : (work : List Work) → settled s.frame.work ≡ work → IsUnstuck (elaborated p) s work
  unstuck (Rest (Bundle spot assigns rest) ∷ next) is =
      every_bundle_unstuck p s h spot assigns rest next k.granted (allocate_soundly p k.granted.judged k.granted.parts k.granted.declares) is mode
  unstuck work is = tt

  pub stores_lie : (ws : List Write) → plans (elaborated p) s (settled s.frame.work) ≡ Ok ws → LieThere s.blocks ws
  stores_lie ws e = plans_lie (elaborated p) s (settled s.frame.work) ws (unstuck (settled s.frame.work) refl) e
