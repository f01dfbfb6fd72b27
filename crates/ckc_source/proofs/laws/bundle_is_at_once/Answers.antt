use Rattle.std.proofs.Common.{refl}
use Rattle.ckc_base.specs.Steps.{shown}
use Rattle.ckc_source.specs.Blocks.{found}
use Rattle.ckc_source.specs.Runs.{any_below}
use Rattle.ckc_source.specs.States.{resumed}
use Rattle.ckc_source.specs.Steps.{source_step}
use Rattle.ckc_source.proofs.laws.bundle_is_at_once.Goals as goal

pub returns-clause-goes_on : goal.returns-clause-goes_on
unfolding shown found any_below resumed source_step
returns-clause-goes_on c = refl

pub returns-clause-ends : goal.returns-clause-ends
unfolding shown found any_below resumed source_step
returns-clause-ends c = refl
