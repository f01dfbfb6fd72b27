use Rattle.ckc_typed_fit.proofs.Numbered.{functions_count, tags_count}
use Rattle.ckc_typed_fit.proofs.laws.functions_and_tags_are_numbered.Goals as goal

pub returns : goal.returns
returns c = record { functions = functions_count; tags = tags_count }
