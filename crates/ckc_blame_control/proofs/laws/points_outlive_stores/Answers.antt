use Rattle.ckc_blame_control.proofs.Kept.{holds_kept, waiting_kept, writes_keep_ranges, blocks_keep_ranges}
use Rattle.ckc_blame_control.proofs.laws.points_outlive_stores.Goals as goal

pub returns : goal.returns
returns c = record {
  point = λ s shapes before after locals entry here keep h. holds_kept shapes before after keep s locals entry here h;
  writes = writes_keep_ranges;
  block = blocks_keep_ranges;
  both = λ shapes before between after one two to n low high e. two to n low high (one to n low high e);
  calls = λ p before after callers called callee entry keep w. waiting_kept p before after keep callers called callee entry w;
}
