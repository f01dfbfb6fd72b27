use Rattle.ckc_blame_steps.proofs.Allocations.{allocate_soundly}
use Rattle.ckc_blame_steps.proofs.Whole.{every_assignment}
use Rattle.ckc_blame_steps.proofs.Bundles.{every_bundle}
use Rattle.ckc_blame_steps.proofs.laws.assignments_keep_sound.Goals as goal

pub returns : goal.returns
returns c = record {
  assignment = λ p s h spot target right rest next g is m mode safe.
      every_assignment p s h spot target right rest next g (allocate_soundly p g.judged g.parts g.declares) is m mode safe;
  bundle = λ p s h spot assigns rest next g is m mode safe.
      every_bundle p s h spot assigns rest next g (allocate_soundly p g.judged g.parts g.declares) is m mode safe;
}
