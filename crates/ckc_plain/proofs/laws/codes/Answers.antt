use Rattle.ckc_plain.proofs.Relimiting.{plaining_codes, resolving_codes}
use Rattle.ckc_plain.proofs.laws.codes.Goals as goal

pub returns : goal.returns
returns c = record { codes = plaining_codes; phases = resolving_codes }
