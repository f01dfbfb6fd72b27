use Rattle.ckc_build_wellformed.specs.ckc_blame_steps.specs.Stores.{PlansLie}
use Rattle.ckc_build.proofs.Blame.{accepted, checked_by}
use Rattle.ckc_build.proofs.laws.checked_stores_lie_in_blocks.Goals as goal

pub returns : goal.returns
returns c = checked_by PlansLie (λ text p m w. c.accepted_stores_lie.ensures text p (accepted c.texts_exactly.ensures.exact text p m) w)
