use Rattle.ckc_base.proofs.Phases.{exact_of, answers_by, phase_by_exact}
use Rattle.ckc_resolve.specs.Phase.{text_named, naming}
use Rattle.ckc_resolve.proofs.top.resolve.Goals as goal

pub returns : goal.returns
returns c = record { exact = exact_of naming (phase_by_exact text_named) c.args.tree c.resolved-made.result (answers_by text_named c.args.tree c.resolved-made.result c.resolved-made.ensures) }
