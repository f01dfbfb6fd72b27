use Rattle.std.proofs.Common.{arith}
use Rattle.ckc_base_counts.proofs.most_facts.Goals as goal

pub returns : goal.returns
returns c = omega arith
