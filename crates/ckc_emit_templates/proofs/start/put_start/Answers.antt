use Rattle.std.proofs.Common.{rules}
use Rattle.std.proofs.lemmas.Grind.{common_steps}
use Rattle.ckc_emit_templates.proofs.start.put_start.Goals as goal

pub returns : goal.returns
returns c = search (rules, common_steps)
