use Rattle.ckc_blame_steps.proofs.Small.{few_locals}
use Rattle.ckc_blame_steps.proofs.Values.{values_are_few}
use Rattle.ckc_blame_steps.proofs.Few.{each_has_few}
use Rattle.ckc_blame_steps.proofs.facts_laws.functions_are_small.Goals as goal

pub returns : goal.returns
returns c = record { locals = few_locals; values = values_are_few; each = each_has_few }
