use Rattle.std.proofs.Common.{◌≡◌, refl, subst}
use Rattle.std.specs.Prelude.{slice_set}
use Rattle.ckc_base.specs.Memory.{kept_part}
use Rattle.ckc_source.specs.States.{State}
use Rattle.ckc_source.specs.Steps.{store_of}
use Rattle.ckc_build_values.specs.Kinds.{width_of}
use Rattle.ckc_blame_sound.specs.Points.{HoldsAt}
use Rattle.ckc_blame_sound.specs.Limited.{store_with}
use Rattle.ckc_blame_given.proofs.Declared.{declared_after}
use Rattle.ckc_blame_given.proofs.locals_laws.declarations_lead_on.Goals as goal

pub returns : goal.returns
returns c = λ s shapes blocks between after v entry here there d e k n l ends holds are known placed counting judged declared start stay written.
    let t : State = record between { frame = record between.frame { locals = slice_set between.frame.locals k (kept_part (width_of l.ctype) n) } } in
    let same : t ≡ after = cc in
    subst (λ (x : State). HoldsAt s (store_of shapes x) entry there) same
    (declared_after s (store_with shapes blocks between.frame.locals) (store_of shapes between) (store_of shapes t) v entry here there d e k n l ends holds are known placed counting judged declared
    start refl stay (λ to n low high e. e))
