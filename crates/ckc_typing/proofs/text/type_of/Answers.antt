use Rattle.ckc_base.proofs.Phases.{phase_by_exact, answers_by, exact_of}
use Rattle.ckc_typed.specs.Texts.{named_typed}
use Rattle.ckc_typing.specs.Phase.{typing}
use Rattle.ckc_typing.proofs.text.type_of.Goals as goal

pub returns : goal.returns
returns c = record {
  exact = exact_of typing (phase_by_exact named_typed) c.args.text c.typed_text-made.result
      (answers_by named_typed c.args.text c.typed_text-made.result c.typed_text-made.ensures);
}
