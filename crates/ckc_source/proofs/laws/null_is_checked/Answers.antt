use Rattle.std.proofs.Common.{refl}
use Rattle.ckc_base.specs.States.{state_after}
use Rattle.ckc_base.specs.Steps.{shown}
use Rattle.ckc_source.specs.Blocks.{found}
use Rattle.ckc_source.specs.Runs.{any_below}
use Rattle.ckc_source.specs.States.{resumed}
use Rattle.ckc_source.specs.Source.{first_unchecked}
use Rattle.ckc_source.specs.Steps.{source_step}
use Rattle.ckc_source.proofs.laws.null_is_checked.Goals as goal

pub returns-clause-goes_on : goal.returns-clause-goes_on
unfolding shown found any_below resumed source_step
returns-clause-goes_on c = refl

pub returns-clause-stops : goal.returns-clause-stops
unfolding shown found any_below resumed source_step
returns-clause-stops c = refl

pub returns-clause-place : goal.returns-clause-place
unfolding state_after resumed source_step
returns-clause-place c = refl

pub returns-clause-blame : goal.returns-clause-blame
unfolding first_unchecked resumed source_step
returns-clause-blame c = refl
