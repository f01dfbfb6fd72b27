use Rattle.std.proofs.Common.{rules}
use Rattle.ckc_base_counts.proofs.byte_or_end.Goals as goal

pub returns-in-None-clause-word : goal.returns-in-None-clause-word
returns-in-None-clause-word c = search rules
