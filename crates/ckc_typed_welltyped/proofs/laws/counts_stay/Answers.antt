use Rattle.ckc_typed_welltyped.proofs.Exactly.{marks_stay, depths_stay, small_stays}
use Rattle.ckc_typed_welltyped.proofs.laws.counts_stay.Goals as goal

pub returns : goal.returns
returns c = record {
  marks = marks_stay;
  depths = depths_stay;
  small = small_stays;
}
