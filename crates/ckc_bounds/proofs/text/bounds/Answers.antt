use Rattle.ckc_base.proofs.Phases.{phase_by_exact, answers_by, exact_of}
use Rattle.ckc_bounds.specs.Texts.{text_judged}
use Rattle.ckc_bounds.specs.Phase.{bounding}
use Rattle.ckc_bounds.proofs.text.bounds.Goals as goal

pub returns : goal.returns
returns c = record {
  exact = exact_of bounding (phase_by_exact text_judged) c.args.p c.judge_text.result
      (answers_by text_judged c.args.p c.judge_text.result c.judge_text.ensures);
}
