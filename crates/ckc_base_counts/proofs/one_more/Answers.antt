use Rattle.std.proofs.Common.{rules}
use Rattle.ckc_base_counts.proofs.one_more.Goals as goal

pub returns-clause-more : goal.returns-clause-more
returns-clause-more c = search rules

pub returns-clause-rose : goal.returns-clause-rose
returns-clause-rose c = search rules
