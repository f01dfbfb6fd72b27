use Rattle.ckc_base.proofs.Phases.{exact_of, answers_by}
use Rattle.ckc_plain.specs.Phase.{text_plain, plaining}
use Rattle.ckc_plain.proofs.Relimiting.{plaining_exact}
use Rattle.ckc_plain.proofs.top.plain.Goals as goal

pub returns : goal.returns
returns c = record { exact = exact_of plaining plaining_exact c.args.named c.plained.result (answers_by text_plain c.args.named c.plained.result c.plained.ensures) }
