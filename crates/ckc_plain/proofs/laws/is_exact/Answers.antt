use Rattle.ckc_plain.proofs.Relimiting.{plaining_exact, relimiting_exact, resolving_exact}
use Rattle.ckc_plain.proofs.laws.is_exact.Goals as goal

pub returns : goal.returns
returns c = record { exact = plaining_exact; limits = relimiting_exact; phases = resolving_exact }
