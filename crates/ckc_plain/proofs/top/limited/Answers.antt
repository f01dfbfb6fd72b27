use Rattle.ckc_plain.proofs.Relimiting.{limits_kept}
use Rattle.ckc_plain.proofs.top.limited.Goals as goal

pub returns-in-Ok : goal.returns-in-Ok
returns-in-Ok c = record { exact = limits_kept c.args.named c.in-Ok.ensures.exact }
