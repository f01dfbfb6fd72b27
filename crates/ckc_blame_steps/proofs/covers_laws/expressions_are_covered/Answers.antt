use Rattle.ckc_blame_steps.proofs.Cover.{expressions_are_covered}
use Rattle.ckc_blame_steps.proofs.Judged.{judged_covered}
use Rattle.ckc_blame_steps.proofs.covers_laws.expressions_are_covered.Goals as goal

pub returns : goal.returns
returns c = record {
  whole = expressions_are_covered;
  judged = judged_covered;
}
