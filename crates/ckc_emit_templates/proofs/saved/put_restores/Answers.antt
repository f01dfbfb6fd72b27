use Rattle.std.proofs.Common.{rules}
use Rattle.ckc_emit_templates.proofs.saved.put_restores.Goals as goal

pub returns : goal.returns
returns c = search rules
