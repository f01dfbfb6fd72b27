use Rattle.ckc_typed_plain.proofs.PlainLocals.{params_numbered, locals_numbered}
use Rattle.ckc_typed_plain.proofs.laws.plain_locals_are_numbered.Goals as goal

pub returns : goal.returns
returns c = record { params = params_numbered; locals = locals_numbered }
