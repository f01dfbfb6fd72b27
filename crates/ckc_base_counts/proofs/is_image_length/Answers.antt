use Rattle.std.proofs.Common.{rules}
use Rattle.ckc_base_counts.proofs.is_image_length.Goals as goal

pub returns : goal.returns
returns c = search rules
